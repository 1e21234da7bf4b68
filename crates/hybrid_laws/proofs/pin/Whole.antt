-- Pin in the whole state.
use Rattle.hybrid_model.specs.declared.events.Event.TheVariants as Events
use Rattle.hybrid_laws.proofs.maps.Tests.{both}
use Rattle.hybrid_laws.proofs.pin.Pin.{keeps_pin, pin-is, simulates_pin}
use Rattle.hybrid_laws.proofs.states.Pair.{has-side}
use Rattle.hybrid_laws.proofs.states.Silent.{coherent-silent, turns-stay}
use Rattle.hybrid_laws.proofs.states.Steps.{SimulatedPair, simulated-pair}
use Rattle.hybrid_model.specs.Coherence.{OfProcess}
use Rattle.hybrid_model.specs.Events.{after, after_here, may, may_here}
use Rattle.hybrid_model.specs.Globals.{Coherent, ring_number}
use Rattle.hybrid_model.specs.Pin.{pin}
use Rattle.hybrid_model.specs.Pairs.{Here, Pair, here}
use Rattle.hybrid_model.specs.Shown.{shown_own}
use Rattle.hybrid_model.specs.Sides.{LinuxSide, Service, Side, service_of}
use Rattle.kernel_model.specs.Nodes.{is_there}
use Rattle.kernel_model.specs.OneKernel.{OneHere}
use Rattle.mck_word.specs.Maps.{Map}
use Rattle.mck_word.specs.declared.Pid.{Pid}
use Rattle.std.proofs.Common.{ap, refl, sym}
use Rattle.std.specs.Prelude.{true, ℕ, ◌≡◌}

module _ (pair : Pair) (c : Coherent pair) (q : Pid) (w : ℕ) (e : may pair (Events.Pin q w) ≡ true) where
  abbrev p : ℕ
  p = q.0

  abbrev h : Here
  h = here pair p

  there : is_there pair.node p ≡ true
  there = let a = both (is_there pair.node p) (may_here (Events.Pin q w) h) e in a.0

  allowed : may_here (Events.Pin q w) h ≡ true
  allowed = let a = both (is_there pair.node p) (may_here (Events.Pin q w) h) e in a.1

  k : OfProcess p h.side h.node h.workers (ring_number pair)
  k = c.whole p

  abbrev side' : Side
  side' = (after_here (Events.Pin q w) p h).side

  shows : shown_own pair.frames side' ≡ shown_own pair.frames h.side
  shows = ap (λ (o : OneHere). o.own) (sym (simulates_pin p h (ring_number pair) k q w allowed).leads)

  same-services : (pin h.side.linux w).services ≡ h.side.linux.services
  same-services = ap (λ (l : LinuxSide). l.services) (pin-is p h (ring_number pair) k q w allowed)

  pub coherent_pin : Coherent (after pair (Events.Pin q w))
  coherent_pin = coherent-silent pair c p there side' pair.turns (keeps_pin p h (ring_number pair) k q w allowed) refl refl refl refl shows
      (turns-stay pair c p there side' (λ x u. (u, ap (λ (m : Map Service). (service_of m x).progress) same-services)))

  pub simulated_pin : SimulatedPair pair (Events.Pin q w)
  simulated_pin = simulated-pair pair p (has-side pair c.known p there) (Events.Pin q w) refl (simulates_pin p h (ring_number pair) k q w allowed) tt refl (λ x s n f. refl)
