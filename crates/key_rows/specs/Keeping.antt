-- The rows of a map that pass a test.
use Rattle.std.specs.Prelude.{ℕ, Bool, cond, Some, None}
use Rattle.mck_word.specs.Maps.{Map, collect}

module _ {V : Type 0} where
  abbrev pub kept : (ℕ → V → Bool) → Map V → Map V
  kept test m = collect (λ k v. cond (test k v) (Some v) None) m
