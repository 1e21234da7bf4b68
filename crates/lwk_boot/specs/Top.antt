-- The bytes of the stack's last page at the start.
use Rattle.frame_mem.specs.Pages.{written}
use Rattle.job_model.specs.declared.image.Image.{Image}
use Rattle.kernel_model.specs.Layout.{auxiliary_bytes, stack_pointer, stack_words, strings}
use Rattle.kernel_model.specs.Pages.{zero_page}
use Rattle.mck_word.specs.Lists.{count_from}
use Rattle.mck_word.specs.Words.{little_endian}
use Rattle.std.specs.Prelude.{List, [], ◌∷◌, flat_map, length, ℕ, ◌-◌}

-- the first address of the page
abbrev pub top_address : ℕ
top_address = 0x3fffffe000

-- where the strings begin in the page, and where the words
abbrev pub strings_place : List (List ℕ) → ℕ
strings_place arguments = 0xff0 - length (strings arguments)

abbrev pub words_place : List (List ℕ) → ℕ
words_place arguments = stack_pointer arguments - top_address

-- what stands behind the addresses of the arguments
abbrev pub auxiliary_words : Image → List ℕ
auxiliary_words image = 0 ∷ 0 ∷ 3 ∷ image.phdr ∷ 4 ∷ 56 ∷ 5 ∷ image.phnum ∷ 6 ∷ 4096 ∷ 9 ∷ image.entry ∷ 25 ∷ auxiliary_bytes ∷ 0 ∷ 0 ∷ []

unfoldable pub top_page : Image → List (List ℕ) → List ℕ
top_page image arguments =
    written (written (written zero_page 0xff0 (count_from 0 16))
    (strings_place arguments) (strings arguments))
    (words_place arguments) (flat_map (little_endian 8) (stack_words image arguments))
