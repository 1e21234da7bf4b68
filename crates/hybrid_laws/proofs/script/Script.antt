-- Script keeps what holds of every process, and is the step Script of the one-kernel machine.
use Rattle.kernel_model.specs.declared.steps.Step.TheVariants as Steps
use Rattle.hybrid_model.specs.declared.events.Event.TheVariants as Events
use Rattle.hybrid_laws.proofs.memory.ViewShown.{none-idle, none_free}
use Rattle.hybrid_laws.proofs.node.EventKeeps.{script-keeps}
use Rattle.hybrid_laws.proofs.node.Keeps.{node-keeps}
use Rattle.hybrid_laws.proofs.states.Simulated.{simulated-one}
use Rattle.hybrid_laws.specs.Simulated.{Simulated}
use Rattle.hybrid_model.specs.Coherence.{OfProcess}
use Rattle.hybrid_model.specs.Events.{after_here, may_here}
use Rattle.hybrid_model.specs.Pairs.{Here}
use Rattle.hybrid_model.specs.Sides.{Side}
use Rattle.kernel_model.specs.Traps.{script_sent}
use Rattle.std.proofs.Common.{refl}
use Rattle.std.specs.Prelude.{true, ℕ, ◌≡◌}

module _ (p k : ℕ) (h : Here) where
  pub keeps_script : (q : ℕ) (side : Side) (workers : ℕ) (ring : ℕ → ℕ) → OfProcess q side h.node workers ring → OfProcess q side (after_here (Events.Script k) p h).node workers ring
  keeps_script q side workers ring w = node-keeps q none_free side h.node (script_sent k h.node) workers ring (script-keeps q none_free k h.node) (none-idle q h.node) w

  pub simulated_script : may_here (Events.Script k) h ≡ true → Simulated (Events.Script k) p h
  simulated_script m = simulated-one (Events.Script k) p h (Steps.Script k) refl m refl
