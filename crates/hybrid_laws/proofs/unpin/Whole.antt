-- Unpin in the whole state.
use Rattle.hybrid_model.specs.declared.events.Event.TheVariants as Events
use Rattle.hybrid_laws.proofs.maps.Tests.{both}
use Rattle.hybrid_laws.proofs.states.Pair.{has-side}
use Rattle.hybrid_laws.proofs.states.Silent.{coherent-silent, turns-stay}
use Rattle.hybrid_laws.proofs.states.Steps.{SimulatedPair, simulated-pair}
use Rattle.hybrid_laws.proofs.unpin.Unpin.{keeps_unpin, simulates_unpin}
use Rattle.hybrid_model.specs.Coherence.{OfProcess}
use Rattle.hybrid_model.specs.Events.{after, after_here, may, may_here}
use Rattle.hybrid_model.specs.Globals.{Coherent, ring_number}
use Rattle.hybrid_model.specs.Unpin.{unpin}
use Rattle.hybrid_model.specs.Pairs.{Here, Pair, here}
use Rattle.hybrid_model.specs.Sides.{Side}
use Rattle.kernel_model.specs.Nodes.{is_there}
use Rattle.mck_word.specs.declared.Pid.{Pid}
use Rattle.std.proofs.Common.{refl}
use Rattle.std.specs.Prelude.{true, ℕ, ◌≡◌}

module _ (pair : Pair) (c : Coherent pair) (q : Pid) (w : ℕ) (e : may pair (Events.Unpin q w) ≡ true) where
  abbrev p : ℕ
  p = q.0

  abbrev h : Here
  h = here pair p

  there : is_there pair.node p ≡ true
  there = let a = both (is_there pair.node p) (may_here (Events.Unpin q w) h) e in a.0

  allowed : may_here (Events.Unpin q w) h ≡ true
  allowed = let a = both (is_there pair.node p) (may_here (Events.Unpin q w) h) e in a.1

  k : OfProcess p h.side h.node h.workers (ring_number pair)
  k = c.whole p

  abbrev side' : Side
  side' = (after_here (Events.Unpin q w) p h).side

  pub coherent_unpin : Coherent (after pair (Events.Unpin q w))
  unfolding unpin
  coherent_unpin = coherent-silent pair c p there side' pair.turns (keeps_unpin p h (ring_number pair) k q w) refl refl refl refl refl
      (turns-stay pair c p there side' (λ x u. (u, refl)))

  pub simulated_unpin : SimulatedPair pair (Events.Unpin q w)
  simulated_unpin = simulated-pair pair p (has-side pair c.known p there) (Events.Unpin q w) refl (simulates_unpin p h q w) tt refl (λ x s n f. refl)
