-- How many numbers below a bound pass a test, and how that changes with the test.
use Rattle.std.proofs.Common.{◌≡◌, ◌≢◌, ℕ, zero, suc, ◌+◌, ◌<◌, ◌≤◌, Bool, true, false, cond, refl, ap, inl, inr, arith}
use Rattle.std.specs.Prelude.{◌||◌, ◌&&◌}
use Rattle.std.proofs.lemmas.Bool.{cases_eq}

-- how many numbers below n pass the test
unfoldable pub count_to : (ℕ → Bool) → ℕ → ℕ
count_to f zero = 0
count_to f (suc n) = cond (f n) 1 0 + count_to f n

pub count_to-le : (f : ℕ → Bool) (n : ℕ) → count_to f n ≤ n
unfolding count_to
count_to-le f zero = omega arith
count_to-le f (suc n) = elim (f n) as (λ b. cond b 1 0 + count_to f n ≤ suc n) [ true ↦ omega (arith, count_to-le f n) | false ↦ omega (arith, count_to-le f n) ]

pub count_to-same : (f g : ℕ → Bool) (n : ℕ) → ((k : ℕ) → k < n → f k ≡ g k) → count_to f n ≡ count_to g n
unfolding count_to
count_to-same f g zero h = refl
count_to-same f g (suc n) h = rw (h n (omega arith), count_to-same f g n (λ k l. h k (omega arith))) refl

-- one place less
pub count_to-less : (f g : ℕ → Bool) (p n : ℕ) → p < n → f p ≡ true → g p ≡ false → ((k : ℕ) → k ≢ p → f k ≡ g k) → count_to f n ≡ count_to g n + 1
unfolding count_to
count_to-less f g p zero l a b h = absurd (omega arith)
count_to-less f g p (suc n) l a b h =
    elim (cases_eq n p) [
      | inl e ↦ rw (ap f e, ap g e, a, b, count_to-same f g n (λ k m. h k (omega arith))) (omega arith)
      | inr o ↦ let rest = count_to-less f g p n (omega arith) a b h in rw (h n o) (omega arith)
    ]

-- one place more at most
pub count_to-more : (f g : ℕ → Bool) (p n : ℕ) → ((k : ℕ) → k ≢ p → f k ≡ g k) → count_to f n ≤ count_to g n + 1
unfolding count_to
count_to-more f g p zero h = omega arith
count_to-more f g p (suc n) h =
    elim (cases_eq n p) [
      | inl e ↦
          let rest : count_to f n ≡ count_to g n = count_to-same f g n (λ k m. h k (omega arith)) in
          one (f n) (g n) (count_to f n) (count_to g n) rest
      | inr o ↦ let rest = count_to-more f g p n h in rw (h n o) (omega arith)
    ]
  where
    one : (a b : Bool) (x y : ℕ) → x ≡ y → cond a 1 0 + x ≤ cond b 1 0 + y + 1
    one true true x y e = omega arith
    one true false x y e = omega arith
    one false true x y e = omega arith
    one false false x y e = omega arith

pub count_to-or : (f g c : ℕ → Bool) (n : ℕ) → count_to (λ p. (f p || g p) && c p) n ≤ count_to (λ p. f p && c p) n + count_to (λ p. g p && c p) n
unfolding count_to
count_to-or f g c zero = omega arith
count_to-or f g c (suc n) = one (f n) (g n) (c n) _ _ _ (count_to-or f g c n)
  where
    one : (a b d : Bool) (x y z : ℕ) → x ≤ y + z → cond ((a || b) && d) 1 0 + x ≤ (cond (a && d) 1 0 + y) + (cond (b && d) 1 0 + z)
    one true true true x y z h = omega arith
    one true true false x y z h = omega arith
    one true false true x y z h = omega arith
    one true false false x y z h = omega arith
    one false true true x y z h = omega arith
    one false true false x y z h = omega arith
    one false false true x y z h = omega arith
    one false false false x y z h = omega arith
