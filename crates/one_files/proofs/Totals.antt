-- The sum of what is left to go through.
use Rattle.std.proofs.Common.{◌≡◌, ◌≤◌, ◌+◌, ◌∙◌, ℕ, zero, suc, List, [], ◌∷◌, ap, arith, length, refl, sym}
use Rattle.std.specs.Prelude.{drop, min, sum_by}

left-none : {X : Type 0} (xs : List X) (n : ℕ) → length xs ≤ n → drop n xs ≡ []
left-none [] zero h = refl
left-none [] (suc n) h = refl
left-none (x ∷ xs) zero h = absurd (omega arith)
left-none (x ∷ xs) (suc n) h = left-none xs n (omega arith)

pub total-end : {X : Type 0} (f : X → ℕ) (xs : List X) (most total i : ℕ) → length xs ≤ i → total ≤ most → min (sum_by f xs) most ≡ min (total + sum_by f (drop i xs)) most → total ≡ min (sum_by f xs) most
total-end f xs most total i h l e =
    let none : sum_by f (drop i xs) ≡ 0 = ap (sum_by f) (left-none xs i h) in
    let whole : min (total + sum_by f (drop i xs)) most ≡ total = omega arith in
    sym (e ∙ whole)
