-- What the arguments of a guest are.
use Rattle.std.specs.Prelude.{List, length, sum_by, ℕ, ◌+◌, ◌≤◌}

-- up to 64 arguments of 1,024 bytes together, each with a byte behind it
pub record AreArguments (arguments : List (List ℕ)) : Type 0 where
  pub most : length arguments ≤ 64
  pub small : sum_by (λ a. length a + 1) arguments ≤ 1024
