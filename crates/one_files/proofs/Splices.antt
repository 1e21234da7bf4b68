-- Bytes that are filled up with zeros before others are put in.
use Rattle.mck_word.specs.Lists.{spliced}
use Rattle.std.proofs.Common.{◌≡◌, ◌+◌, ◌-◌, ◌≤◌, ◌∙◌, ℕ, zero, suc, List, [], ◌∷◌, ◌++◌, ap, arith, length, refl, sym, append-nil}
use Rattle.std.specs.Prelude.{drop, replicate, take}
use Rattle.std.proofs.lemmas.List.{length-append}

-- so many zeros
abbrev pub zeros : ℕ → List ℕ
zeros k = replicate k 0

-- the bytes, with zeros up to that length
abbrev pub filled : ℕ → List ℕ → List ℕ
filled end bs = bs ++ zeros (end - length bs)

length-zeros : (k : ℕ) → length (zeros k) ≡ k
length-zeros zero = refl
length-zeros (suc k) = ap suc (length-zeros k)

take-zeros : (o k : ℕ) → o ≤ k → take o (zeros k) ≡ zeros o
take-zeros zero k h = refl
take-zeros (suc o) zero h = absurd (omega arith)
take-zeros (suc o) (suc k) h = ap (λ (xs : List ℕ). 0 ∷ xs) (take-zeros o k (omega arith))

no-bytes : (o : ℕ) (xs : List ℕ) → take o [] ++ xs ≡ xs
no-bytes zero xs = refl
no-bytes (suc o) xs = refl

take-filled : (bs : List ℕ) (o k : ℕ) → o ≤ length bs + k → take o (bs ++ zeros k) ≡ take o bs ++ zeros (o - length bs)
take-filled [] o k h =
    let same : o ≡ o - 0 = omega arith in
    take-zeros o k (omega arith) ∙ ap zeros same ∙ sym (no-bytes o (zeros (o - 0)))
take-filled (b ∷ bs) zero k h = let none : 0 ≡ 0 - suc (length bs) = omega arith in ap zeros none
take-filled (b ∷ bs) (suc o) k h =
    let same : o - length bs ≡ suc o - suc (length bs) = omega arith in
    ap (λ (xs : List ℕ). b ∷ xs) (take-filled bs o k (omega arith) ∙ ap (λ (n : ℕ). take o bs ++ zeros n) same)

drop-zeros : (n k : ℕ) → k ≤ n → drop n (zeros k) ≡ []
drop-zeros zero zero h = refl
drop-zeros zero (suc k) h = absurd (omega arith)
drop-zeros (suc n) zero h = refl
drop-zeros (suc n) (suc k) h = drop-zeros n k (omega arith)

no-rest : (n : ℕ) → drop {A = ℕ} n [] ≡ []
no-rest zero = refl
no-rest (suc n) = refl

drop-filled : (bs : List ℕ) (n k : ℕ) → k ≡ n - length bs → drop n (bs ++ zeros k) ≡ drop n bs
drop-filled [] n k h = drop-zeros n k (omega arith) ∙ sym (no-rest n)
drop-filled (b ∷ bs) zero k h = let none : k ≡ 0 = omega arith in ap (λ (n : ℕ). b ∷ bs ++ zeros n) none ∙ append-nil (b ∷ bs)
drop-filled (b ∷ bs) (suc n) k h = drop-filled bs n k (omega arith)

-- to fill up first makes no difference
pub spliced-filled : (bs : List ℕ) (o : ℕ) (new : List ℕ) → spliced (filled (o + length new) bs) o new ≡ spliced bs o new
spliced-filled bs o new =
    let end = o + length new in
    let long = length-append bs (zeros (end - length bs)) in
    let more = length-zeros (end - length bs) in
    let none : o - length (filled end bs) ≡ 0 = omega arith in
    let front = take-filled bs o (end - length bs) (omega arith) in
    let back = drop-filled bs end (end - length bs) refl in
    ap (λ (xs : List ℕ). xs ++ zeros (o - length (filled end bs)) ++ new ++ drop end (filled end bs)) front
    ∙ ap (λ (k : ℕ). take o bs ++ zeros (o - length bs) ++ zeros k ++ new ++ drop end (filled end bs)) none
    ∙ ap (λ (xs : List ℕ). xs ++ new ++ drop end (filled end bs)) (append-nil (take o bs ++ zeros (o - length bs)))
    ∙ ap (λ (xs : List ℕ). take o bs ++ zeros (o - length bs) ++ new ++ xs) back

take-whole : (bs : List ℕ) (n : ℕ) → length bs ≤ n → take n bs ≡ bs
take-whole [] zero h = refl
take-whole [] (suc n) h = refl
take-whole (b ∷ bs) zero h = absurd (omega arith)
take-whole (b ∷ bs) (suc n) h = ap (λ (xs : List ℕ). b ∷ xs) (take-whole bs n (omega arith))

drop-whole : (bs : List ℕ) (n : ℕ) → length bs ≤ n → drop n bs ≡ []
drop-whole [] n h = no-rest n
drop-whole (b ∷ bs) zero h = absurd (omega arith)
drop-whole (b ∷ bs) (suc n) h = drop-whole bs n (omega arith)

-- what a list that was lent whole leaves
pub lent-whole : (len : ℕ) (new old : List ℕ) → len ≡ length old → length new ≡ length old → take len (new ++ drop (length new) old) ≡ new
lent-whole len new old l same =
    ap (λ (xs : List ℕ). take len (new ++ xs)) (drop-whole old (length new) (omega arith)) ∙ ap (take len) (append-nil new) ∙ take-whole new len (omega arith)
