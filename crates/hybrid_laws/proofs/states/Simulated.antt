-- An event whose image is one step, or none, is simulated.
use Rattle.kernel_model.specs.Steps as Steps
use Rattle.hybrid_laws.specs.Simulated.{Simulated, steps_after, steps_may}
use Rattle.hybrid_model.specs.Events.{after_here}
use Rattle.hybrid_model.specs.Images.{image_here}
use Rattle.hybrid_model.specs.Pairs.{Here}
use Rattle.hybrid_model.specs.Shown.{shown_here}
use Rattle.hybrid_model.specs.declared.events.Event.{Event}
use Rattle.kernel_model.specs.declared.steps.Step.{Step}
use Rattle.std.proofs.Common.{ap, sym, ◌∙◌}
use Rattle.std.specs.Prelude.{[], true, ℕ, ◌&&◌, ◌∷◌, ◌≡◌}

-- the image is one step, or none
pub simulated-one : (e : Event) (p : ℕ) (h : Here) (s : Step) → image_here e p h ≡ s ∷ [] → Steps.may_here s (shown_here h) ≡ true → Steps.after_here s p (shown_here h) ≡ shown_here (after_here e p h) → Simulated e p h
simulated-one e p h s i m l = record { may_happen = ap (λ x. steps_may p x (shown_here h)) i ∙ ap (λ b. b && true) m; leads = ap (λ x. steps_after p x (shown_here h)) i ∙ l }

pub simulated-none : (e : Event) (p : ℕ) (h : Here) → image_here e p h ≡ [] → shown_here (after_here e p h) ≡ shown_here h → Simulated e p h
simulated-none e p h i l = record { may_happen = ap (λ x. steps_may p x (shown_here h)) i; leads = ap (λ x. steps_after p x (shown_here h)) i ∙ sym l }
