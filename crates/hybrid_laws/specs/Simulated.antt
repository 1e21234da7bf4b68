-- An event on one process is simulated: the steps of its image may happen one after another from what the process shows, and the last leaves what it shows after.
use Rattle.kernel_model.specs.Steps as Steps
use Rattle.hybrid_model.specs.Events.{after_here}
use Rattle.hybrid_model.specs.Images.{image_here}
use Rattle.hybrid_model.specs.Pairs.{Here}
use Rattle.hybrid_model.specs.Shown.{shown_here}
use Rattle.hybrid_model.specs.declared.events.Event.{Event}
use Rattle.kernel_model.specs.OneKernel.{OneHere}
use Rattle.kernel_model.specs.declared.steps.Step.{Step}
use Rattle.std.specs.Prelude.{Bool, List, [], true, ℕ, ◌&&◌, ◌∷◌, ◌≡◌}

-- the process after steps, and whether each may happen in its turn
abbrev pub steps_after : ℕ → List Step → OneHere → OneHere
steps_after p [] h = h
steps_after p (s ∷ ss) h = steps_after p ss (Steps.after_here s p h)

abbrev pub steps_may : ℕ → List Step → OneHere → Bool
steps_may p [] h = true
steps_may p (s ∷ ss) h = Steps.may_here s h && steps_may p ss (Steps.after_here s p h)

pub record Simulated (e : Event) (p : ℕ) (h : Here) : Type 0 where
  pub may_happen : steps_may p (image_here e p h) (shown_here h) ≡ true
  pub leads : steps_after p (image_here e p h) (shown_here h) ≡ shown_here (after_here e p h)
