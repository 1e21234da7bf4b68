-- What a step finds that may happen.
use Rattle.kernel_model.specs.OneKernel.{OneKernel}
use Rattle.kernel_model.specs.Steps.{may}
use Rattle.kernel_model.specs.declared.steps.Step.{Step}
use Rattle.node_machine.specs.Reached.{IsShown}
use Rattle.std.specs.Prelude.{true, ◌≡◌}

pub record Ready (o : OneKernel) (s : Step) : Type 0 where
  pub shown : IsShown o
  pub may : may o s ≡ true
