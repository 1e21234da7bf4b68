-- How many numbers below a bound pass two tests that differ at one number.
use Rattle.page_map.specs.Counts.{count_to, count_to-same}
use Rattle.std.proofs.Common.{◌≡◌, ◌≢◌, ℕ, zero, suc, ◌+◌, ◌<◌, ◌≤◌, Bool, true, false, cond, ap, inl, inr, arith}
use Rattle.std.proofs.lemmas.Bool.{cases_eq}

-- one that passes no more
pub one_less : (f g : ℕ → Bool) (p n : ℕ) → p < n → f p ≡ true → g p ≡ false → ((k : ℕ) → k < n → k ≢ p → f k ≡ g k) → count_to f n ≡ count_to g n + 1
unfolding count_to
one_less f g p zero l a b h = absurd (omega arith)
one_less f g p (suc n) l a b h =
    elim (cases_eq n p) [
      | inl e ↦ rw (ap f e, ap g e, a, b, count_to-same f g n (λ k m. h k (omega arith) (omega arith))) (omega arith)
      | inr o ↦ let rest = one_less f g p n (omega arith) a b (λ k m q. h k (omega arith) q) in rw (h n (omega arith) o) (omega arith)
    ]

-- one that may pass now
pub one_more : (f g : ℕ → Bool) (p n : ℕ) → ((k : ℕ) → k < n → k ≢ p → f k ≡ g k) → count_to f n ≤ count_to g n + 1
unfolding count_to
one_more f g p zero h = omega arith
one_more f g p (suc n) h =
    elim (cases_eq n p) [
      | inl e ↦
          let rest : count_to f n ≡ count_to g n = count_to-same f g n (λ k m. h k (omega arith) (omega arith)) in
          one (f n) (g n) (count_to f n) (count_to g n) rest
      | inr o ↦ let rest = one_more f g p n (λ k m q. h k (omega arith) q) in rw (h n (omega arith) o) (omega arith)
    ]
  where
    one : (a b : Bool) (x y : ℕ) → x ≡ y → cond a 1 0 + x ≤ cond b 1 0 + y + 1
    one true true x y e = omega arith
    one true false x y e = omega arith
    one false true x y e = omega arith
    one false false x y e = omega arith

-- one that passes is counted
pub at_least_one : (f : ℕ → Bool) (p n : ℕ) → p < n → f p ≡ true → 1 ≤ count_to f n
unfolding count_to
at_least_one f p zero l a = absurd (omega arith)
at_least_one f p (suc n) l a = elim (cases_eq n p) [
  | inl e ↦ rw (ap f e, a) (omega arith)
  | inr o ↦ let rest = at_least_one f p n (omega arith) a in omega arith
]
