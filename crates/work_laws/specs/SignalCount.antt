-- How many signals a set has.
use Rattle.guest_laws.specs.Counting.{sum_below}
use Rattle.std.specs.Int.{bit_at}
use Rattle.std.specs.Prelude.{ℕ}

-- the signals of a set, 1 to 64
unfoldable pub signals : ℕ → ℕ
signals set = sum_below (bit_at set) 64
