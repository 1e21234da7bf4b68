-- The greatest page below a number.
use Rattle.isa_model.specs.Memory.{Memory}
use Rattle.mck_word.specs.Maps.{at}
use Rattle.std.specs.Prelude.{None, is_some, true, ℕ, ◌<◌, ◌≡◌}

-- no page is present below the number
abbrev pub NoneBelow : Memory → ℕ → Type 0
NoneBelow m end = (k : ℕ) → k < end → at m k ≡ None

-- the page is present, and the greatest below the number
pub record IsLastBelow (m : Memory) (end page : ℕ) : Type 0 where
  pub below : page < end
  pub there : is_some (at m page) ≡ true
  pub last : (k : ℕ) → page < k → k < end → at m k ≡ None
