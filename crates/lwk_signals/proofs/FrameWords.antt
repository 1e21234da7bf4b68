-- Words as bytes, and a frame's parts.
use Rattle.byteorder.specs.Endian.{little_number}
use Rattle.byteorder.specs.Numbers.{little_from-cons}
use Rattle.kernel_model.specs.Signals.{words_in}
use Rattle.mck_word.specs.Words.{number_of}
use Rattle.std.proofs.Common.{◌≡◌, ◌+◌, ◌*◌, ◌<◌, ◌≤◌, ℕ, zero, suc, List, [], ◌∷◌, ◌++◌, drop, take, length, refl, sym, ap, ◌∙◌, arith, append-nil, length-drop}
use Rattle.std.proofs.lemmas.Grind.{flat_map-append}
use Rattle.std.proofs.lemmas.List.{drop-drop, drop-take}
use Rattle.std.specs.Prelude.{flat_map, slice_index}

-- the words of a frame, one behind the other
pub frame-parts : (f : ℕ → List ℕ) (pc mask last : ℕ) (ws : List ℕ) (a b d e : List ℕ) → a ≡ f pc → b ≡ flat_map f ws → d ≡ f mask → e ≡ f last
    → a ++ (b ++ (d ++ e)) ≡ flat_map f (pc ∷ ws ++ (mask ∷ last ∷ []))
frame-parts f pc mask last ws a b d e ha hb hd he =
    (λ i. ha i ++ (hb i ++ (hd i ++ he i)))
    ∙ ap (λ t. f pc ++ (flat_map f ws ++ (f mask ++ t))) (sym (append-nil (f last)))
    ∙ ap (λ t. f pc ++ t) (sym (flat_map-append f ws (mask ∷ last ∷ [])))

number-little : (n : ℕ) (xs : List ℕ) → n ≤ length xs → little_number n xs ≡ number_of (take n xs)
number-little zero [] h = refl
number-little zero (x ∷ xs) h = refl
number-little (suc n) [] h = absurd (omega arith)
number-little (suc n) (x ∷ xs) h = ap (λ (k : ℕ). x + 256 * k) (little_from-cons 0 n x xs ∙ number-little n xs (omega arith))

-- words that were read one by one
pub words-read : (src dst : List ℕ) → 8 * length dst ≤ length src → ((k : ℕ) → k < length dst → slice_index dst k ≡ little_number 8 (drop (8 * k) src)) → dst ≡ words_in (length dst) src
words-read src [] h read = refl
words-read src (d ∷ ds) h read =
    let first : d ≡ little_number 8 src = read 0 (omega arith) in
    let rest = words-read (drop 8 src) ds (omega (arith, length-drop 8 src)) (λ k l.
    let e : 8 * suc k ≡ 8 + 8 * k = omega arith in
    read (suc k) (omega arith) ∙ ap (little_number 8) (ap (λ j. drop j src) e ∙ sym (drop-drop (8 * k) 8 src))) in
    (λ i. (first ∙ number-little 8 src (omega arith)) i ∷ rest i)

take-front : (n m : ℕ) (xs : List ℕ) → take n (take (n + m) xs) ≡ take n xs
take-front zero m xs = take-none (take (0 + m) xs) ∙ sym (take-none xs)
  where
    take-none : (xs : List ℕ) → take 0 xs ≡ []
    take-none [] = refl
    take-none (x ∷ xs) = refl
take-front (suc n) m [] = let e : suc n + m ≡ suc (n + m) = omega arith in ap (λ k. take (suc n) (take k [])) e
take-front (suc n) m (x ∷ xs) = let e : suc n + m ≡ suc (n + m) = omega arith in ap (λ k. take (suc n) (take k (x ∷ xs))) e ∙ ap (λ t. x ∷ t) (take-front n m xs)

-- n words read 8 n bytes
pub words-take : (n : ℕ) (xs : List ℕ) → words_in n (take (8 * n) xs) ≡ words_in n xs
words-take zero xs = refl
words-take (suc n) xs =
    let e : 8 * suc n ≡ 8 + 8 * n = omega arith in
    ap (λ k. words_in (suc n) (take k xs)) e
    ∙ (λ i. number_of (take-front 8 (8 * n) xs i) ∷ (ap (words_in n) (drop-take 8 (8 * n) xs) ∙ words-take n (drop 8 xs)) i)
