-- Deliver keeps what holds of every process, and is the step Deliver of the one-kernel machine.
use Rattle.kernel_model.specs.declared.steps.Step.TheVariants as Steps
use Rattle.hybrid_model.specs.declared.events.Event.TheVariants as Events
use Rattle.hybrid_laws.proofs.memory.ViewShown.{none-idle, none_free, shown-view}
use Rattle.hybrid_laws.proofs.node.EventKeeps.{deliver-keeps}
use Rattle.hybrid_laws.proofs.node.Keeps.{node-keeps}
use Rattle.hybrid_laws.proofs.run.Run.{TableApart}
use Rattle.hybrid_laws.proofs.states.Simulated.{simulated-one}
use Rattle.hybrid_laws.specs.Simulated.{Simulated}
use Rattle.hybrid_model.specs.Coherence.{OfProcess}
use Rattle.hybrid_model.specs.Events.{after_here, may_here}
use Rattle.hybrid_model.specs.Deliver.{after_deliver}
use Rattle.hybrid_model.specs.OneProcess.{view_here}
use Rattle.hybrid_model.specs.Pairs.{Here}
use Rattle.hybrid_model.specs.Sides.{Side}
use Rattle.kernel_model.specs.Signals.{deliver}
use Rattle.mck_word.specs.declared.Tid.{Tid}
use Rattle.std.proofs.Common.{refl}
use Rattle.std.specs.Prelude.{None, true, ℕ, ◌≡◌}

module _ (p : ℕ) (t : Tid) (h : Here) where
  pub keeps_deliver : (q : ℕ) (side : Side) (workers : ℕ) (ring : ℕ → ℕ) → OfProcess q side h.node workers ring → OfProcess q side (after_here (Events.Deliver t) p h).node workers ring
  unfolding after_deliver
  keeps_deliver q side workers ring k = node-keeps q none_free side h.node (deliver t.0 (view_here h)).node workers ring (deliver-keeps q none_free t.0 (view_here h)) (none-idle q h.node) k

  pub simulated_deliver : may_here (Events.Deliver t) h ≡ true → TableApart h.side.lwk.table → h.born ≡ None → Simulated (Events.Deliver t) p h
  unfolding after_deliver
  simulated_deliver m apart none = simulated-one (Events.Deliver t) p h (Steps.Deliver t) refl m (shown-view h (deliver t.0 (view_here h)) apart none)
