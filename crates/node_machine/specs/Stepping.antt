-- The steps of the one-kernel machine that an event stands for.
use Rattle.hybrid_model.specs.Events.{process_of_event}
use Rattle.hybrid_model.specs.Run.{executed_in_run}
use Rattle.hybrid_model.specs.Pairs.{Pair, here}
use Rattle.hybrid_model.specs.declared.events.Event.TheVariants.{Run}
use Rattle.hybrid_model.specs.declared.events.Event.{Event}
use Rattle.kernel_model.specs.declared.steps.Step.{Step}
use Rattle.std.specs.Prelude.{ℕ, List, [], ◌∷◌, Option, Some, None, replicate}

-- how many instructions an event executes
abbrev pub executed : Pair → Event → ℕ
executed pair (Run core t n) = executed_in_run t.0 n (here pair (process_of_event pair.node (Run core t n)))
executed pair _ = 0

-- the steps of an event: of a Run one for each instruction
abbrev pub steps_of : Event → Option Step → ℕ → List Step
steps_of event None n = []
steps_of (Run core t most) (Some step) n = replicate n step
steps_of _ (Some step) n = step ∷ []
