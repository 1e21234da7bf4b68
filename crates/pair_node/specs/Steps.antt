-- A step, if there is one, as a list.
use Rattle.kernel_model.specs.declared.steps.Step.{Step}
use Rattle.std.specs.Prelude.{List, None, Option, Some, [], ◌∷◌}

abbrev pub listed : Option Step → List Step
listed None = []
listed (Some s) = s ∷ []
