-- The states that the two kernels reach, and those of the one-kernel machine that they show.
use Rattle.hybrid_laws.specs.Lasting.{Lasting}
use Rattle.hybrid_model.specs.Globals.{Coherent}
use Rattle.hybrid_model.specs.Pairs.{Pair}
use Rattle.hybrid_model.specs.Shown.{one}
use Rattle.kernel_model.specs.OneKernel.{OneKernel}
use Rattle.offer_laws.specs.Small.{Small}
use Rattle.std.specs.Prelude.{◌≡◌}

-- what holds of each state that the two kernels reach
pub record IsSound (pair : Pair) : Type 0 where
  pub coherent : Coherent pair
  pub lasting : Lasting pair
  pub small : Small pair

-- a state that the two kernels reach, as far as it is told
abbrev pub IsReached : Pair → Type 0
IsReached pair = ∥ IsSound pair ∥₁

-- two kernels that show the state, in a state that they reach
pub record Shows (o : OneKernel) : Type 0 where
  pub pair : Pair
  pub sound : IsSound pair
  pub shows : one pair ≡ o

-- a state of the one-kernel machine that the two kernels show
abbrev pub IsShown : OneKernel → Type 0
IsShown o = ∥ Shows o ∥₁
