-- The signal that is chosen is one of 1 to 64.
use Rattle.kernel_model.specs.SignalSets.{has, minus, union}
use Rattle.kernel_model.specs.Signals.{next_of_sets}
use Rattle.mck_word.specs.Lists.{count_from}
use Rattle.std.proofs.Common.{arith, sym}
use Rattle.std.specs.Prelude.{Bool, MatchOption, None, Option, Some, cond, false, find, suc, true, zero, ℕ, ◌+◌, ◌≡◌, ◌≤◌}

found-between : (test : ℕ → Bool) (from n s : ℕ) → find test (count_from from n) ≡ Some s → (from ≤ s) × (s + 1 ≤ from + n)
found-between test from zero s e = absurd (grind (arith, e))
found-between test from (suc n) s e = go (test from) e (λ k. found-between test (from + 1) n s k)
  where
    go : (b : Bool) → cond b (Some from) (find test (count_from (from + 1) n)) ≡ Some s → (find test (count_from (from + 1) n) ≡ Some s → (from + 1 ≤ s) × (s + 1 ≤ from + 1 + n)) → (from ≤ s) × (s + 1 ≤ from + suc n)
    go true k rest = let same : from ≡ s = cc in (omega (arith, same), omega (arith, same))
    go false k rest = let r = rest k in (omega (arith, r.0), omega (arith, r.1))

pub least_of : (own shared mask : ℕ) (o : Option ℕ) → o ≡ next_of_sets own shared mask → MatchOption o (Unit {0}) (λ s. 1 ≤ s)
least_of own shared mask None e = tt
least_of own shared mask (Some s) e = let a = found-between (λ signal. has signal (minus (union own shared) mask)) 1 64 s (sym e) in a.0

pub most_of : (own shared mask : ℕ) (o : Option ℕ) → o ≡ next_of_sets own shared mask → MatchOption o (Unit {0}) (λ s. s ≤ 64)
most_of own shared mask None e = tt
most_of own shared mask (Some s) e = let a = found-between (λ signal. has signal (minus (union own shared) mask)) 1 64 s (sym e) in omega (arith, a.1)
