-- The image of an event: the steps of the one-kernel machine that it stands for.
-- Source: this project's own, after the idea of IHK/McKernel.
use Rattle.hybrid_model.specs.Answer.{answer_to, image_of_answer, thread_served}
use Rattle.hybrid_model.specs.Events.{process_of_event}
use Rattle.hybrid_model.specs.Intake.{image_of_intake}
use Rattle.hybrid_model.specs.Interrupt.{image_of_interrupt, is_calling}
use Rattle.hybrid_model.specs.OneProcess.{one_step}
use Rattle.hybrid_model.specs.Pairs.{Here, Pair, here}
use Rattle.hybrid_model.specs.Park.{image_of_park}
use Rattle.hybrid_model.specs.Run.{executed_in_run}
use Rattle.hybrid_model.specs.Sides.{served}
use Rattle.hybrid_model.specs.Unpark.{thread_of_request}
use Rattle.hybrid_model.specs.declared.events.Event.{Event}
use Rattle.hybrid_model.specs.declared.events.Event.TheVariants.{Act, Answer, Copy, Deliver, Intake, Interrupt, Park, Reap, Run, Script, Trap, Unpark, Wait}
use Rattle.kernel_model.specs.declared.steps.Step.{Step}
use Rattle.kernel_model.specs.declared.steps.Step.TheVariants as Steps
use Rattle.mck_word.specs.Identifiers.{tid}
use Rattle.std.specs.Prelude.{List, [], replicate, ℕ}

abbrev pub image_here : Event → ℕ → Here → List Step
image_here (Run core t n) p h = replicate (executed_in_run t.0 n h) (Steps.Instr t)
image_here (Trap t) p h = one_step (Steps.Trap t)
image_here (Deliver t) p h = one_step (Steps.Deliver t)
image_here (Intake q) p h = image_of_intake h.side.to_lwk h.side
image_here (Answer q w) p h = image_of_answer (answer_to h.side w) (thread_served h.side w)
image_here (Interrupt t) p h = image_of_interrupt (is_calling h.side t.0) t.0
image_here (Wait t) p h = one_step (Steps.Wait t)
image_here (Reap q) p h = one_step (Steps.End q)
image_here (Script k) p h = one_step (Steps.Script k)
image_here (Copy q w) p h = one_step (Steps.Piece (tid (thread_served h.side w)))
image_here (Act q w) p h = one_step (Steps.FileStep (tid (thread_served h.side w)))
image_here (Park q w) p h = image_of_park (served h.side.linux w).interrupted (thread_served h.side w)
image_here (Unpark q n) p h = one_step (Steps.Wake (tid (thread_of_request h.side n.0)))
image_here _ p h = []

abbrev pub image : Pair → Event → List Step
image pair e = let p = process_of_event pair.node e in image_here e p (here pair p)
