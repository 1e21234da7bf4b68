-- The strings and the words of a guest's stack, and where they stand.
use Rattle.isa_model.specs.Memory.{Memory, lacks, write_bytes}
use Rattle.job_model.specs.declared.image.Image.{Image}
use Rattle.kernel_model.specs.Layout.{addresses_from, auxiliary_bytes, stack_pointer, stack_words, strings, strings_address}
use Rattle.mck_word.specs.Words.{little_endian}
use Rattle.mck_word.specs.declared.Access.TheVariants.{Write}
use Rattle.one_memory.proofs.BytesRead.{may-all}
use Rattle.one_memory.specs.Guests.{AreArguments}
use Rattle.one_memory.specs.Views.{tried}
use Rattle.std.proofs.Common.{ap, arith, refl, sym, ◌∙◌}
use Rattle.std.proofs.Math.Seq.{drop-cons}
use Rattle.std.proofs.lemmas.List.Concat.{length-flat_map}
use Rattle.std.specs.Int.{to_le_bytes, w64}
use Rattle.std.specs.Prelude.{List, [], ◌∷◌, ◌++◌, cond, drop, false, flat_map, length, slice_index_or, suc, sum_by, zero, ℕ, ◌%◌, ◌*◌, ◌+◌, ◌-◌, ◌/◌, ◌<◌, ◌≡◌, ◌≤◌}

-- ---- lists in loops

pub drop-past : {A : Type 0} (xs : List A) (n : ℕ) → length xs ≤ n → drop n xs ≡ []
drop-past [] zero l = refl
drop-past [] (suc n) l = refl
drop-past (x ∷ xs) zero l = absurd (omega arith)
drop-past (x ∷ xs) (suc n) l = drop-past xs n (omega arith)

pub drop-none : {A : Type 0} (xs : List A) → drop 0 xs ≡ xs
drop-none [] = refl
drop-none (x ∷ xs) = refl

pub drop-here : {A : Type 0} (xs : List A) (i : ℕ) (x : A) → i < length xs → x ≡ slice_index_or xs i x → drop i xs ≡ x ∷ drop (i + 1) xs
drop-here xs i x l is = let e : suc i ≡ i + 1 = omega arith in drop-cons xs i x l ∙ (λ j. sym is j ∷ drop (e j) xs)

-- ---- lengths

length-both : (xs ys : List ℕ) → length (xs ++ ys) ≡ length xs + length ys
length-both [] ys = omega arith
length-both (x ∷ xs) ys = let rest = length-both xs ys in omega arith

length-little : (n x : ℕ) → length (little_endian n x) ≡ n
length-little zero x = refl
length-little (suc n) x = ap suc (length-little n (x / 256))

length-words : (ws : List ℕ) → length (flat_map (little_endian 8) ws) ≡ 8 * length ws
length-words [] = refl
length-words (w ∷ ws) =
    length-both (little_endian 8 w) (flat_map (little_endian 8) ws) ∙ (let rest = length-words ws in let one : length (little_endian 8 w) ≡ 8 = length-little 8 w in omega arith)

length-with-zero : (xs : List ℕ) → length (xs ++ 0 ∷ []) ≡ length xs + 1
length-with-zero xs = length-both xs (0 ∷ [])

pub length-strings : (arguments : List (List ℕ)) → length (strings arguments) ≡ sum_by (λ a. length a + 1) arguments
length-strings arguments = length-flat_map (λ a. a ++ 0 ∷ []) arguments ∙ (λ i. sum_by (λ a. length-with-zero a i) arguments)

length-addresses : (a : ℕ) (ss : List (List ℕ)) (rest : List ℕ) → length (addresses_from a ss ++ rest) ≡ length ss + length rest
length-addresses a [] rest = omega arith
length-addresses a (s ∷ ss) rest = let e = length-addresses (a + length s + 1) ss rest in omega arith

abbrev pub auxiliary : Image → List ℕ
auxiliary image = 0 ∷ 0 ∷ 3 ∷ image.phdr ∷ 4 ∷ 56 ∷ 5 ∷ image.phnum ∷ 6 ∷ 4096 ∷ 9 ∷ image.entry ∷ 25 ∷ auxiliary_bytes ∷ 0 ∷ 0 ∷ []

length-stack : (image : Image) (arguments : List (List ℕ)) → length (stack_words image arguments) ≡ length arguments + 17
length-stack image arguments = let e = length-addresses (strings_address arguments) arguments (auxiliary image) in omega arith

-- ---- strings and words, one after another

pub strings-here : (arguments : List (List ℕ)) (i : ℕ) (a : List ℕ) → i < length arguments → a ≡ slice_index_or arguments i a
    → strings (drop i arguments) ≡ (a ++ 0 ∷ []) ++ strings (drop (i + 1) arguments)
strings-here arguments i a l is = ap strings (drop-here arguments i a l is)

pub strings-less : (arguments : List (List ℕ)) (i : ℕ) (a : List ℕ) → i < length arguments → a ≡ slice_index_or arguments i a
    → length (strings (drop i arguments)) ≡ length a + 1 + length (strings (drop (i + 1) arguments))
strings-less arguments i a l is =
    ap length (strings-here arguments i a l is) ∙ (length-both (a ++ 0 ∷ []) (strings (drop (i + 1) arguments)) ∙ ap (λ n. n + length (strings (drop (i + 1) arguments))) (length-with-zero a))

-- the bytes of a word
pub word-bytes : (w : ℕ) → to_le_bytes w64 w ≡ little_endian 8 w
word-bytes w =
    let b : w / 65536 ≡ w / 256 / 256 = omega arith in
    let c : w / 16777216 ≡ w / 256 / 256 / 256 = omega arith in
    let d : w / 4294967296 ≡ w / 256 / 256 / 256 / 256 = omega arith in
    let e : w / 1099511627776 ≡ w / 256 / 256 / 256 / 256 / 256 = omega arith in
    let f : w / 281474976710656 ≡ w / 256 / 256 / 256 / 256 / 256 / 256 = omega arith in
    let g : w / 72057594037927936 ≡ w / 256 / 256 / 256 / 256 / 256 / 256 / 256 = omega arith in
    λ i. w % 256 ∷ w / 256 % 256 ∷ b i % 256 ∷ c i % 256 ∷ d i % 256 ∷ e i % 256 ∷ f i % 256 ∷ g i % 256 ∷ []

-- ---- where they stand

-- what lies in the stack's last page can be stored there
pub stored-top : (m : Memory) (address : ℕ) (bytes : List ℕ) → lacks m Write 0x3fffffe ≡ false → 0x3fffffe000 ≤ address → address + length bytes ≤ 0x3ffffff000 → tried address bytes m ≡ write_bytes m address bytes
stored-top m address bytes there low high =
    ap (λ b. cond b (write_bytes m address bytes) m)
    (may-all m Write address (length bytes) (λ p s a b. let same : p ≡ 0x3fffffe = omega (arith, low, high, s, a, b) in ap (lacks m Write) same ∙ there))

pub record Places (image : Image) (arguments : List (List ℕ)) : Type 0 where
  pub strings_low : 0x3fffffe000 ≤ strings_address arguments
  pub strings_high : strings_address arguments + length (strings arguments) ≤ 0x3ffffff000
  pub words_low : 0x3fffffe000 ≤ stack_pointer arguments
  pub words_high : stack_pointer arguments + length (flat_map (little_endian 8) (stack_words image arguments)) ≤ 0x3ffffff000

places-of : (n m : ℕ) → n ≤ 1024 → m ≤ 64 → record {
  low : 0x3fffffe000 ≤ 0x3fffffeff0 - n;
  high : 0x3fffffeff0 - n + n ≤ 0x3ffffff000;
  words_low : 0x3fffffe000 ≤ (0x3fffffeff0 - n - 8 * (m + 17)) / 16 * 16;
  words_high : (0x3fffffeff0 - n - 8 * (m + 17)) / 16 * 16 + 8 * (m + 17) ≤ 0x3ffffff000;
}
places-of n m a b = record { low = omega arith; high = omega arith; words_low = omega arith; words_high = omega arith }

pub places : (image : Image) (arguments : List (List ℕ)) → AreArguments arguments → Places image arguments
places image arguments are =
    let long : length (strings arguments) ≤ 1024 = omega (arith, length-strings arguments, are.small) in
    let all = places-of (length (strings arguments)) (length arguments) long are.most in
    let words : length (flat_map (little_endian 8) (stack_words image arguments)) ≡ 8 * (length arguments + 17) = length-words (stack_words image arguments) ∙ ap (λ n. 8 * n) (length-stack image arguments) in
    record { strings_low = all.low; strings_high = all.high; words_low = all.words_low; words_high = omega (arith, words, all.words_high) }
