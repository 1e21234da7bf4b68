-- Bits of a set.
use Rattle.kernel_model.specs.SignalSets.{has, lowest}
use Rattle.mck_word.specs.Lists.{count_from}
use Rattle.std.proofs.Common.{◌≡◌, ◌+◌, ◌-◌, ◌^◌, ◌<◌, ◌≤◌, ℕ, zero, suc, Bool, true, false, eqb, Some, ap, ◌∙◌, inl, inr, arith}
use Rattle.std.proofs.lemmas.Bool.{cases_eq, eqb-false, eq-eqb, ne_eqb}
use Rattle.std.proofs.lemmas.Nat.Bits.{and_pow, bit_at-lt, bit_at-trailing_zeros}
use Rattle.std.proofs.lemmas.Nat.{or_disjoint}
use Rattle.std.specs.Int.{bit_at, trailing_zeros, w64}
use Rattle.std.specs.Prelude.{bit_or, find}

-- a bit that isn't set is added
pub or-clear : (set k : ℕ) → eqb (bit_at set k) 1 ≡ false → bit_or set (2 ^ k) ≡ set + 2 ^ k
or-clear set k h =
    let small = bit_at-lt set k in
    let none : bit_at set k ≡ 0 = elim (cases_eq (bit_at set k) 0) [ inl z ↦ z | inr o ↦ absurd (eqb-false (bit_at set k) 1 h (omega arith)) ] in
    or_disjoint set (2 ^ k) (and_pow set k ∙ rw none (omega arith))

-- the first number of a run that passes
pub find-first : (p : ℕ → Bool) (n k m : ℕ) → n ≤ m → m < n + k → p m ≡ true → ((i : ℕ) → n ≤ i → i < m → p i ≡ false) → find p (count_from n k) ≡ Some m
find-first p n zero m a b h before = absurd (omega arith)
find-first p n (suc k) m a b h before =
    elim (cases_eq n m) [
      | inl e ↦ rw (ap p e ∙ h) (ap Some e)
      | inr o ↦ rw (before n (omega arith) (omega arith)) (find-first p (n + 1) k m (omega arith) (omega arith) h (λ i l u. before i (omega arith) u))
    ]

-- the lowest signal is one above the zeros below
pub lowest-trailing : (set : ℕ) → 0 < set → set < 2 ^ 64 → lowest set ≡ Some (trailing_zeros w64 set + 1)
lowest-trailing set some fits =
    let at = bit_at-trailing_zeros w64 set some fits in
    let tz = trailing_zeros w64 set in
    let within : tz < 64 = at.0 in
    let back : tz + 1 - 1 ≡ tz = omega arith in
    find-first (λ signal. has signal set) 1 64 (tz + 1) (omega arith) (omega arith)
    (eq-eqb (bit_at set (tz + 1 - 1)) 1 (ap (bit_at set) back ∙ at.1))
    (λ i l u. let below : i - 1 < tz = omega arith in let zero_at = at.2 (i - 1) below in ne_eqb (bit_at set (i - 1)) 1 (omega arith))
