-- Intake of a Fault in the whole state.
use Rattle.hybrid_model.specs.declared.events.Event.TheVariants as Events
use Rattle.hybrid_laws.proofs.intake.Fault.{keeps_fault, shows_fault, simulated_fault}
use Rattle.hybrid_laws.proofs.states.Pair.{has-side}
use Rattle.hybrid_laws.proofs.states.Silent.{coherent-silent, turns-stay}
use Rattle.hybrid_laws.proofs.states.Steps.{AtMostOne, SimulatedPair, simulated-pair}
use Rattle.hybrid_model.specs.Events.{after}
use Rattle.hybrid_model.specs.Globals.{Coherent, ring_number}
use Rattle.hybrid_model.specs.Intake.{image_of_intake}
use Rattle.hybrid_model.specs.Intake.{intake, take_fault}
use Rattle.hybrid_model.specs.Pairs.{Here, Pair, here, put_here, side_of}
use Rattle.hybrid_model.specs.Shown.{shown_own}
use Rattle.hybrid_model.specs.Sides.{Side}
use Rattle.ikc_ring.specs.declared.Msg.TheVariants.{Fault}
use Rattle.ikc_ring.specs.declared.Msg.{Msg}
use Rattle.kernel_model.specs.Nodes.{is_there}
use Rattle.kernel_model.specs.OneKernel.{OneHere}
use Rattle.mck_word.specs.declared.Access.{Access}
use Rattle.mck_word.specs.declared.Pid.{Pid}
use Rattle.std.proofs.Common.{ap, refl, subst, sym}
use Rattle.std.specs.Prelude.{List, true, ℕ, ◌∷◌, ◌≡◌}

module _ (pair : Pair) (c : Coherent pair) (q : Pid) (there : is_there pair.node q.0 ≡ true) (w page : ℕ) (a : Access) (rest : List Msg) (first : (side_of pair q.0).to_lwk ≡ Fault w page a ∷ rest) where
  abbrev p : ℕ
  p = q.0

  abbrev h : Here
  h = here pair p

  abbrev side : Side
  side = (take_fault w page a rest h).side

  after-is : after pair (Events.Intake q) ≡ put_here pair p (take_fault w page a rest h)
  after-is = ap (λ (ms : List Msg). put_here pair p (intake p ms h)) first

  pub coherent_intake_fault : Coherent (after pair (Events.Intake q))
  unfolding take_fault
  coherent_intake_fault = subst Coherent (sym after-is) (coherent-silent pair c p there side pair.turns (keeps_fault p h w page a rest first pair.workers (ring_number pair) (c.whole p))
      refl refl refl refl (ap (λ (o : OneHere). o.own) (shows_fault p h w page a rest first)) (turns-stay pair c p there side (λ x u. (u, refl))))

  pub simulated_pair_fault : SimulatedPair pair (Events.Intake q)
  unfolding take_fault
  simulated_pair_fault = simulated-pair pair p (has-side pair c.known p there) (Events.Intake q) refl (simulated_fault p h w page a rest first) most
      (ap (λ (ms : List Msg). (intake p ms h).born) first) (λ x s n f. ap (λ (ms : List Msg). shown_own (intake p ms h).frames s) first)
    where
      most : AtMostOne pair.node p (image_of_intake h.side.to_lwk h.side)
      most = subst (λ (ms : List Msg). AtMostOne pair.node p (image_of_intake ms h.side)) (sym first) tt
