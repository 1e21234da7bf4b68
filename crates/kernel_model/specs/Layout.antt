-- A guest's memory and registers at the boot.
-- Source: the System V start of a process; the addresses are this project's own.
use Rattle.isa_model.specs.Memory.{write_bytes, Memory, Page}
use Rattle.job_model.specs.declared.image.Image.{Image}
use Rattle.job_model.specs.declared.image.Segment.{Segment}
use Rattle.kernel_model.specs.MemoryCalls.{rights_of_prot}
use Rattle.kernel_model.specs.Nodes.{no_regs, set_reg}
use Rattle.kernel_model.specs.Pages.{page_end, page_size, pages_in, pages_of, zero_page, page_number}
use Rattle.kernel_model.specs.Signals.{trampoline}
use Rattle.mck_flags.specs.declared.rights.Rights.{Rights}
use Rattle.mck_word.specs.Lists.{count_from}
use Rattle.mck_word.specs.Maps.{no_rows, put}
use Rattle.mck_word.specs.Words.{little_endian}
use Rattle.mck_word.specs.declared.Regs.{Regs}
use Rattle.std.specs.Prelude.{ℕ, ◌+◌, ◌-◌, ◌*◌, ◌/◌, max, List, [], ◌∷◌, ◌++◌, length, take, drop, replicate, flat_map, fold}

-- ---- pages

-- the bytes of a segment's page: those of its file part that lie there, and zeros
abbrev pub segment_page : Segment → ℕ → List ℕ
segment_page s page =
    let start = page * page_size in
    take page_size (replicate (s.addr - start) 0 ++ drop (start - s.addr) s.bytes ++ zero_page)

abbrev pub page_with : Rights → List ℕ → Page
page_with rights bytes = record { rights = rights; bytes = bytes }

abbrev pub add_segment : Memory → Segment → Memory
add_segment m s = fold (λ (n : Memory) page. put n page (page_with s.rights (segment_page s page))) m (pages_in (pages_of s.addr s.mem))

abbrev pub stack_pages : ℕ
stack_pages = 16

abbrev pub add_stack : Memory → Memory
add_stack m = fold (λ (n : Memory) page. put n page (page_with (rights_of_prot 3) zero_page)) m (count_from (page_number trampoline - stack_pages) stack_pages)

-- `addi a7,x0,139` and `ecall`, then zeros
abbrev pub add_trampoline : Memory → Memory
add_trampoline m = put m (page_number trampoline) (page_with (rights_of_prot 5) (take page_size (little_endian 4 0x08b00893 ++ little_endian 4 0x73 ++ zero_page)))

-- how many frames a guest's boot needs
abbrev pub needed_frames : Image → ℕ
needed_frames image = length (flat_map (λ s. pages_in (pages_of s.addr s.mem)) image.segments) + 17

-- ---- the stack's top

abbrev pub auxiliary_bytes : ℕ
auxiliary_bytes = 0x3fffffeff0

abbrev pub strings : List (List ℕ) → List ℕ
strings arguments = flat_map (λ a. a ++ 0 ∷ []) arguments

abbrev pub strings_address : List (List ℕ) → ℕ
strings_address arguments = auxiliary_bytes - length (strings arguments)

abbrev pub stack_pointer : List (List ℕ) → ℕ
stack_pointer arguments = (strings_address arguments - 8 * (length arguments + 17)) / 16 * 16

-- the addresses of the strings, from the first one's on
abbrev pub addresses_from : ℕ → List (List ℕ) → List ℕ
addresses_from a [] = []
addresses_from a (s ∷ ss) = a ∷ addresses_from (a + length s + 1) ss

-- the count, the argument addresses, two zeros, and the pairs PHDR, PHENT, PHNUM, PAGESZ, ENTRY, RANDOM and the null pair
abbrev pub stack_words : Image → List (List ℕ) → List ℕ
stack_words image arguments =
    length arguments ∷ addresses_from (strings_address arguments) arguments
    ++ (0 ∷ 0 ∷ 3 ∷ image.phdr ∷ 4 ∷ 56 ∷ 5 ∷ image.phnum ∷ 6 ∷ page_size ∷ 9 ∷ image.entry ∷ 25 ∷ auxiliary_bytes ∷ 0 ∷ 0 ∷ [])

abbrev pub with_stack_top : Image → List (List ℕ) → Memory → Memory
with_stack_top image arguments m =
    write_bytes (write_bytes (write_bytes m auxiliary_bytes (count_from 0 16))
    (strings_address arguments) (strings arguments))
    (stack_pointer arguments) (flat_map (little_endian 8) (stack_words image arguments))

-- ---- the whole

unfoldable pub guest_memory : Image → List (List ℕ) → Memory
guest_memory image arguments = with_stack_top image arguments (add_trampoline (add_stack (fold add_segment no_rows image.segments)))

abbrev pub guest_regs : Image → List (List ℕ) → Regs
guest_regs image arguments = set_reg 2 (stack_pointer arguments) (record no_regs { pc = image.entry })

abbrev pub segment_end : Segment → ℕ
segment_end s = s.addr + s.mem

-- the highest segment end, rounded up to a page
abbrev pub heap_base_of : Image → ℕ
heap_base_of image = page_end (fold (λ a s. max a (segment_end s)) 0 image.segments) * page_size
