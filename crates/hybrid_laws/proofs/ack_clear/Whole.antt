-- AckClear in the whole state.
use Rattle.hybrid_model.specs.declared.events.Event.TheVariants as Events
use Rattle.hybrid_laws.proofs.ack_clear.AckClear.{keeps_ack_clear, simulates_ack_clear}
use Rattle.hybrid_laws.proofs.maps.Tests.{both}
use Rattle.hybrid_laws.proofs.states.Pair.{has-side}
use Rattle.hybrid_laws.proofs.states.Silent.{coherent-silent, turns-stay}
use Rattle.hybrid_laws.proofs.states.Steps.{SimulatedPair, simulated-pair}
use Rattle.hybrid_model.specs.Coherence.{OfProcess}
use Rattle.hybrid_model.specs.AckClear.{ack_clear}
use Rattle.hybrid_model.specs.Events.{after, after_here, may, may_here}
use Rattle.hybrid_model.specs.Globals.{Coherent, ring_number}
use Rattle.hybrid_model.specs.Pairs.{Here, Pair, here}
use Rattle.hybrid_model.specs.Sides.{Side}
use Rattle.kernel_model.specs.Nodes.{is_there}
use Rattle.kernel_model.specs.OneKernel.{OneHere}
use Rattle.mck_word.specs.declared.Pid.{Pid}
use Rattle.std.proofs.Common.{ap, refl, sym}
use Rattle.std.specs.Prelude.{true, ℕ, ◌≡◌}

module _ (pair : Pair) (c : Coherent pair) (q : Pid) (e : may pair (Events.AckClear q) ≡ true) where
  abbrev p : ℕ
  p = q.0

  abbrev h : Here
  h = here pair p

  there : is_there pair.node p ≡ true
  there = let a = both (is_there pair.node p) (may_here (Events.AckClear q) h) e in a.0

  allowed : may_here (Events.AckClear q) h ≡ true
  allowed = let a = both (is_there pair.node p) (may_here (Events.AckClear q) h) e in a.1

  k : OfProcess p h.side h.node h.workers (ring_number pair)
  k = c.whole p

  abbrev side' : Side
  side' = (after_here (Events.AckClear q) p h).side

  pub coherent_ack_clear : Coherent (after pair (Events.AckClear q))
  unfolding ack_clear
  coherent_ack_clear = coherent-silent pair c p there side' pair.turns (keeps_ack_clear p h (ring_number pair) k q allowed) refl refl refl refl
      (ap (λ (o : OneHere). o.own) (sym (simulates_ack_clear p h q).leads))
      (turns-stay pair c p there side' (λ x u. (u, refl)))

  pub simulated_ack_clear : SimulatedPair pair (Events.AckClear q)
  unfolding ack_clear
  simulated_ack_clear = simulated-pair pair p (has-side pair c.known p there) (Events.AckClear q) refl (simulates_ack_clear p h q) tt refl (λ x s n f. refl)
