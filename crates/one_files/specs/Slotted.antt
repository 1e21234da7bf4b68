-- A test of slots.
use Rattle.std.specs.Prelude.{Bool, None, Option, Some, false}

-- whether the slot has a value that passes
abbrev pub passes : {V : Type 0} → (V → Bool) → Option V → Bool
passes test None = false
passes test (Some v) = test v
