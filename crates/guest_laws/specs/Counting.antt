-- Sums over the numbers below a bound.
use Rattle.std.specs.Prelude.{zero, suc, ℕ, ◌+◌}

abbrev pub sum_below : (ℕ → ℕ) → ℕ → ℕ
sum_below f zero = 0
sum_below f (suc n) = f n + sum_below f n
