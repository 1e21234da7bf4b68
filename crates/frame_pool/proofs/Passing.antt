-- The numbers that pass, once one more or one less does.
use Rattle.frame_pool.specs.Pools.{passing}
use Rattle.mck_word.specs.Lists.{count_from, insert_by, member}
use Rattle.std.proofs.Common.{ap, arith, inl, inr, refl, sym, ◌∙◌}
use Rattle.std.proofs.lemmas.Bool.Decides.{nat_tests}
use Rattle.std.proofs.lemmas.Bool.{cases_eq}
use Rattle.std.specs.Prelude.{Bool, List, [], ◌∷◌, cond, false, length, nat_lt, suc, true, zero, ℕ, ◌+◌, ◌<◌, ◌≡◌, ◌≢◌, ◌≤◌, ◌==◌}

pub passing-same : (f g : ℕ → Bool) (low n : ℕ) → ((k : ℕ) → low ≤ k → k < low + n → f k ≡ g k) → passing f low n ≡ passing g low n
passing-same f g low zero h = refl
passing-same f g low (suc n) h =
    let rest = passing-same f g (low + 1) n (λ k a b. h k (omega arith) (omega arith)) in
    rw (h low (omega arith) (omega arith), rest) refl

-- nothing passes
pub passing-none : (f : ℕ → Bool) (low n : ℕ) → ((k : ℕ) → low ≤ k → k < low + n → f k ≡ false) → passing f low n ≡ []
passing-none f low zero h = refl
passing-none f low (suc n) h = rw (h low (omega arith) (omega arith)) (passing-none f (low + 1) n (λ k a b. h k (omega arith) (omega arith)))

-- the first m pass, and no more
pub passing-begin : (f : ℕ → Bool) (low m d : ℕ) → ((k : ℕ) → low ≤ k → k < low + m → f k ≡ true) → ((k : ℕ) → low + m ≤ k → f k ≡ false) → passing f low (m + d) ≡ count_from low m
passing-begin f low zero d on off = let e : 0 + d ≡ d = omega arith in rw e (passing-none f low d (λ k a b. off k (omega arith)))
passing-begin f low (suc m) d on off =
    let e : suc m + d ≡ suc (m + d) = omega arith in
    rw (e, on low (omega arith) (omega arith)) (ap (λ xs. low ∷ xs) (passing-begin f (low + 1) m d (λ k a b. on k (omega arith) (omega arith)) (λ k a. off k (omega arith))))

-- the first that passes, and those behind it
pub passing-first : (f g : ℕ → Bool) (k low n : ℕ) → low ≤ k → k < low + n → f k ≡ true → ((j : ℕ) → low ≤ j → j < k → f j ≡ false)
    → g k ≡ false → ((j : ℕ) → j ≢ k → g j ≡ f j) → passing f low n ≡ k ∷ passing g low n
passing-first f g k low zero a b on off gone same = absurd (omega arith)
passing-first f g k low (suc n) a b on off gone same = elim (cases_eq low k) [
  | inl e ↦
      let rest = passing-same g f (low + 1) n (λ j c d. same j (λ (x : j ≡ k). absurd (omega arith))) in
      rw (ap f e ∙ on, ap g e ∙ gone, e) (rw (ap (λ x. passing g (x + 1) n) (sym e) ∙ rest ∙ ap (λ x. passing f (x + 1) n) e) refl)
  | inr o ↦
      let here = off low (omega arith) (omega arith) in
      rw (here, same low o ∙ here) (passing-first f g k (low + 1) n (omega arith) (omega arith) on (λ j c d. off j (omega arith) d) gone same)
]

-- a number below all goes to the front
insert-front : (f : ℕ → Bool) (k low n : ℕ) → k < low → insert_by nat_lt k (passing f low n) ≡ k ∷ passing f low n
insert-front f k low zero l = refl
insert-front f k low (suc n) l = elim (f low) as (λ b. insert_by nat_lt k (cond b (low ∷ passing f (low + 1) n) (passing f (low + 1) n)) ≡ k ∷ cond b (low ∷ passing f (low + 1) n) (passing f (low + 1) n)) [
  | true ↦ let e : nat_lt k low ≡ true = grind (arith, nat_tests, l) in rw e refl
  | false ↦ insert-front f k (low + 1) n (omega arith)
]

-- one more passes
pub passing-insert : (f g : ℕ → Bool) (k low n : ℕ) → low ≤ k → k < low + n → f k ≡ false → g k ≡ true → ((j : ℕ) → j ≢ k → g j ≡ f j)
    → passing g low n ≡ insert_by nat_lt k (passing f low n)
passing-insert f g k low zero a b off on same = absurd (omega arith)
passing-insert f g k low (suc n) a b off on same = elim (cases_eq low k) [
  | inl e ↦
      let rest = passing-same g f (low + 1) n (λ j c d. same j (λ (x : j ≡ k). absurd (omega arith))) in
      rw (ap f e ∙ off, ap g e ∙ on, rest) (ap (λ x. x ∷ passing f (low + 1) n) e ∙ sym (insert-front f k (low + 1) n (omega arith)))
  | inr o ↦
      let rest = passing-insert f g k (low + 1) n (omega arith) (omega arith) off on same in
      let e : nat_lt k low ≡ false = grind (arith, nat_tests, a, o) in
      rw (same low o, rest) (by_head e (f low))
]
  where
    by_head : nat_lt k low ≡ false → (b : Bool) → cond b (low ∷ insert_by nat_lt k (passing f (low + 1) n)) (insert_by nat_lt k (passing f (low + 1) n))
        ≡ insert_by nat_lt k (cond b (low ∷ passing f (low + 1) n) (passing f (low + 1) n))
    by_head e true = rw e refl
    by_head e false = refl

pub length-insert_by : (k : ℕ) (xs : List ℕ) → length (insert_by nat_lt k xs) ≡ length xs + 1
length-insert_by k [] = refl
length-insert_by k (x ∷ xs) = elim (nat_lt k x) as (λ b. length (cond b (k ∷ x ∷ xs) (x ∷ insert_by nat_lt k xs)) ≡ length (x ∷ xs) + 1) [
  | true ↦ omega arith
  | false ↦ omega (arith, length-insert_by k xs)
]

-- who passes is a member
pub member-passing : (f : ℕ → Bool) (k low n : ℕ) → low ≤ k → k < low + n → f k ≡ true → member k (passing f low n) ≡ true
member-passing f k low zero a b on = absurd (omega arith)
member-passing f k low (suc n) a b on = elim (cases_eq low k) [
  | inl e ↦ let same : (low == k) ≡ true = grind (arith, nat_tests, e) in rw (ap f e ∙ on, same) refl
  | inr o ↦ let rest = member-passing f k (low + 1) n (omega arith) (omega arith) on in
      elim (f low) as (λ b. member k (cond b (low ∷ passing f (low + 1) n) (passing f (low + 1) n)) ≡ true) [
        | true ↦ let other : (low == k) ≡ false = grind (arith, nat_tests, o) in rw (other, rest) refl
        | false ↦ rest
      ]
]

-- no more pass than there are
pub length-passing : (f : ℕ → Bool) (low n : ℕ) → length (passing f low n) ≤ n
length-passing f low zero = omega arith
length-passing f low (suc n) = let rest = length-passing f (low + 1) n in
    elim (f low) as (λ b. length (cond b (low ∷ passing f (low + 1) n) (passing f (low + 1) n)) ≤ suc n) [ true ↦ omega arith | false ↦ omega arith ]
