-- How many there are of each number: a map without zeros.
use Rattle.mck_word.specs.Maps.{Map, at, cut, put}
use Rattle.std.specs.Prelude.{cond, nat_lt, unwrap_or, ℕ, ◌+◌, ◌-◌}

abbrev pub count_in : Map ℕ → ℕ → ℕ
count_in m n = unwrap_or (at m n) 0

-- one more, and one less
abbrev pub raised : ℕ → Map ℕ → Map ℕ
raised n m = put m n (count_in m n + 1)

abbrev pub lowered : ℕ → Map ℕ → Map ℕ
lowered n m = cond (nat_lt 1 (count_in m n)) (put m n (count_in m n - 1)) (cut m n)
