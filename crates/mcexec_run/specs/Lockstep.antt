-- What the one-kernel machine does beside the two kernels, event by event.
use Rattle.hybrid_model.specs.declared.events.Event.TheVariants.{Run}
use Rattle.hybrid_model.specs.declared.events.Event.{Event}
use Rattle.kernel_model.specs.declared.steps.Step.TheVariants.{Instr}
use Rattle.kernel_model.specs.declared.steps.Step.{Step}
use Rattle.mck_word.specs.declared.Tid.{Tid}
use Rattle.std.specs.Prelude.{ℕ, List, [], ◌∷◌, Option, Some, None, replicate}

-- the thread whose instructions an event executes
abbrev pub run_thread : Event → Option Tid
run_thread (Run core t most) = Some t
run_thread _ = None

-- the thread's instructions, else the step that the event stands for, if there is one
abbrev pub steps_by : Option Tid → Option Step → ℕ → List Step
steps_by (Some t) step count = replicate count (Instr t)
steps_by None (Some step) count = step ∷ []
steps_by None None count = []

-- instructions take no room, and no other event stands for more than one step
abbrev pub RoomBy : (Step → Type 0) → Option Tid → List Step → Type 0
RoomBy room (Some t) steps = Unit {0}
RoomBy room None [] = Unit {0}
RoomBy room None (step ∷ steps) = room step
