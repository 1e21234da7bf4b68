-- Lists up to a place, and from a place on.
use Rattle.std.proofs.Common.{ap, arith, refl, ◌∙◌}
use Rattle.std.specs.Prelude.{List, None, Some, [], drop, length, slice_get, suc, take, zero, ℕ, ◌+◌, ◌++◌, ◌≡◌, ◌≤◌, ◌∷◌}

module _ {A : Type 0} where
  pub take-place : (xs : List A) (i : ℕ) (x : A) → slice_get xs i ≡ Some x → take (i + 1) xs ≡ take i xs ++ x ∷ []
  take-place [] i x h = cc
  take-place (y ∷ ys) zero x h = let same : y ≡ x = cc in ap (λ z. z ∷ []) same
  take-place (y ∷ ys) (suc i) x h =
      let e : suc i + 1 ≡ suc (i + 1) = omega arith in
      ap (λ j. take j (y ∷ ys)) e ∙ ap (λ zs. y ∷ zs) (take-place ys i x h)

  pub take-past : (xs : List A) (i : ℕ) → slice_get xs i ≡ None → take i xs ≡ xs
  take-past [] zero h = refl
  take-past [] (suc i) h = refl
  take-past (y ∷ ys) zero h = cc
  take-past (y ∷ ys) (suc i) h = ap (λ zs. y ∷ zs) (take-past ys i h)

  pub place-within : (xs : List A) (i : ℕ) (x : A) → slice_get xs i ≡ Some x → i + 1 ≤ length xs
  place-within [] i x h = cc
  place-within (y ∷ ys) zero x h = omega arith
  place-within (y ∷ ys) (suc i) x h = let l = place-within ys i x h in omega arith

  pub drop-all : (xs : List A) (i : ℕ) → length xs ≤ i → drop i xs ≡ []
  drop-all [] zero l = refl
  drop-all [] (suc i) l = refl
  drop-all (y ∷ ys) zero l = absurd (omega arith)
  drop-all (y ∷ ys) (suc i) l = drop-all ys i (omega arith)
