-- One string, one word or one address more in a page.
use Rattle.frame_mem.specs.Pages.{written}
use Rattle.kernel_model.specs.Layout.{addresses_from, strings}
use Rattle.lwk_boot.proofs.GuestPages.{length-little, length-with-zero, length-words}
use Rattle.lwk_boot.proofs.LeftOver.{drop-here, drop-past, length-both}
use Rattle.lwk_boot.proofs.TopBytes.{length-written, written-more}
use Rattle.mck_word.specs.Words.{little_endian}
use Rattle.std.proofs.Common.{ap, arith, refl, sym, ◌∙◌}
use Rattle.std.proofs.lemmas.Grind.{flat_map-append}
use Rattle.std.specs.Prelude.{List, [], ◌∷◌, ◌++◌, drop, flat_map, length, slice_index_or, suc, ℕ, ◌*◌, ◌+◌, ◌<◌, ◌≡◌, ◌≤◌}

-- ---- strings

abbrev with_zero : List ℕ → List ℕ
with_zero a = a ++ 0 ∷ []

pub strings-here : (arguments : List (List ℕ)) (i : ℕ) (a : List ℕ) → i < length arguments → a ≡ slice_index_or arguments i a
    → length (strings (drop i arguments)) ≡ length a + 1 + length (strings (drop (i + 1) arguments))
strings-here arguments i a l is =
    ap (λ ss. length (strings ss)) (drop-here arguments i a l is)
    ∙ (length-both (with_zero a) (strings (drop (i + 1) arguments)) ∙ ap (λ n. n + length (strings (drop (i + 1) arguments))) (length-with-zero a))

pub strings-none : (arguments : List (List ℕ)) (i : ℕ) → length arguments ≤ i → strings (drop i arguments) ≡ []
strings-none arguments i l = ap strings (drop-past arguments i l)

pub strings-step : (page : List ℕ) (place : ℕ) (arguments : List (List ℕ)) (i : ℕ) (a : List ℕ) → i < length arguments → a ≡ slice_index_or arguments i a
    → place + length (strings (drop i arguments)) ≤ length page
    → written (written (written page place a) (place + length a) (0 ∷ [])) (place + length a + 1) (strings (drop (i + 1) arguments)) ≡ written page place (strings (drop i arguments))
strings-step page place arguments i a l is fits =
    let rest = strings (drop (i + 1) arguments) in
    let long = strings-here arguments i a l is in
    let one = length-with-zero a in
    let e : place + length a + 1 ≡ place + length (with_zero a) = omega arith in
    (λ j. written (written-more page place a (0 ∷ []) (omega arith) j) (e j) rest)
    ∙ (written-more page place (with_zero a) rest (omega arith) ∙ sym (ap (λ ss. written page place (strings ss)) (drop-here arguments i a l is)))

-- ---- words

pub words-step : (page : List ℕ) (place : ℕ) (w : ℕ) (ws : List ℕ) → place + 8 * (length ws + 1) ≤ length page
    → written (written page place (little_endian 8 w)) (place + 8) (flat_map (little_endian 8) ws) ≡ written page place (flat_map (little_endian 8) (w ∷ ws))
words-step page place w ws fits =
    let eight = length-little 8 w in
    let rest = length-words ws in
    written-more page place (little_endian 8 w) (flat_map (little_endian 8) ws) (omega arith)

pub length-with-word : (page : List ℕ) (place w : ℕ) → place + 8 ≤ length page → length (written page place (little_endian 8 w)) ≡ length page
length-with-word page place w fits = length-written page place (little_endian 8 w) fits

pub length-from : (a : ℕ) (ss : List (List ℕ)) → length (addresses_from a ss) ≡ length ss
length-from a [] = refl
length-from a (s ∷ ss) = ap suc (length-from (a + length s + 1) ss)

-- a word, and two lists of words behind it
pub words-three : (page : List ℕ) (place n : ℕ) (xs ys : List ℕ) (k : ℕ) → k ≡ length xs → place + 8 * (1 + length xs + length ys) ≤ length page
    → written (written (written page place (little_endian 8 n)) (place + 8) (flat_map (little_endian 8) xs)) (place + 8 + 8 * k) (flat_map (little_endian 8) ys)
    ≡ written page place (flat_map (little_endian 8) (n ∷ (xs ++ ys)))
words-three page place n xs ys k ek fits =
    let first = written page place (little_endian 8 n) in
    let long = length-with-word page place n (omega arith) in
    let lx = length-words xs in
    let ly = length-words ys in
    let all = length-both xs ys in
    let e : place + 8 + 8 * k ≡ place + 8 + length (flat_map (little_endian 8) xs) = omega arith in
    ap (λ j. written (written first (place + 8) (flat_map (little_endian 8) xs)) j (flat_map (little_endian 8) ys)) e
    ∙ (written-more first (place + 8) (flat_map (little_endian 8) xs) (flat_map (little_endian 8) ys) (omega arith)
    ∙ (ap (written first (place + 8)) (sym (flat_map-append (little_endian 8) xs ys))
    ∙ words-step page place n (xs ++ ys) (omega arith)))
