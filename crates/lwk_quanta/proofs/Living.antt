-- A thread that lives has a row.
use Rattle.std.proofs.Common.{arith, refl}
use Rattle.std.specs.Prelude.{None, Option, Some, is_some, true, unwrap_or, ◌≡◌}

-- what is there is what is looked up
pub there : {V : Type 0} (o : Option V) (d : V) → is_some o ≡ true → o ≡ Some (unwrap_or o d)
there None d e = absurd (grind (arith, e))
there (Some v) d e = refl
