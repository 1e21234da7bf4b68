-- The gap below a page.
use Rattle.std.specs.Prelude.{None, Option, Some, cond, nat_le, ℕ, ◌-◌}

-- the first of n pages that end at `end`, where they begin at `low` or above
abbrev pub gap_between : ℕ → ℕ → ℕ → Option ℕ
gap_between low end n = cond (nat_le n (end - low)) (Some (end - n)) None
