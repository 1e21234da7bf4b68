-- Script in the whole state.
use Rattle.hybrid_model.specs.declared.events.Event.TheVariants as Events
use Rattle.hybrid_laws.proofs.calls.Closed.{script-closed}
use Rattle.hybrid_laws.proofs.maps.Tests.{both}
use Rattle.hybrid_laws.proofs.node.Goes.{GoesAwake, GoesOn, IsAwake, goes-closed}
use Rattle.hybrid_laws.proofs.script.Script.{keeps_script, simulated_script}
use Rattle.hybrid_laws.proofs.states.Node.{coherent-later}
use Rattle.hybrid_laws.proofs.states.Pair.{has-side}
use Rattle.hybrid_laws.proofs.states.Quiet.{keeping-quiet, sleeping-after}
use Rattle.hybrid_laws.proofs.states.Steps.{SimulatedPair, simulated-pair}
use Rattle.hybrid_laws.proofs.trap.Keeps.{each-got}
use Rattle.hybrid_model.specs.Events.{after, may, may_here, process_of_event}
use Rattle.hybrid_model.specs.Globals.{Coherent, ring_number}
use Rattle.hybrid_model.specs.Pairs.{Here, Pair, here, side_of}
use Rattle.kernel_model.specs.Nodes.{Node, Sleeper, is_there}
use Rattle.kernel_model.specs.Traps.{script_sent}
use Rattle.std.proofs.Common.{arith, refl}
use Rattle.std.proofs.lemmas.Bool.Decides.{nat_tests}
use Rattle.std.specs.Prelude.{false, true, ℕ, ◌==◌, ◌≡◌}

module _ (pair : Pair) (c : Coherent pair) (k : ℕ) (e : may pair (Events.Script k) ≡ true) where
  abbrev p : ℕ
  p = process_of_event pair.node (Events.Script k)

  abbrev h : Here
  h = here pair p

  there : is_there pair.node p ≡ true
  there = (both (is_there pair.node p) (may_here (Events.Script k) h) e).0

  allowed : may_here (Events.Script k) h ≡ true
  allowed = (both (is_there pair.node p) (may_here (Events.Script k) h) e).1

  abbrev node : Node
  node = script_sent k pair.node

  -- a thread that isn't there sleeps nowhere
  abbrev none : ℕ
  none = pair.node.next_number

  awake : IsAwake none pair.node
  awake = each-got (λ (s : Sleeper). (s.thread == none) ≡ false) pair.node.sleepers (λ j s f. (let x = c.sleeping.asleep j s f in let l = c.known.threads_below s.thread x.0 x.1 in grind (arith, nat_tests, l)))

  goes : GoesAwake none pair.node node
  goes = script-closed none (GoesAwake none) (GoesOn none) (goes-closed none) k pair.node (λ a unsent. record {
    goes = record { rows = λ u y f. (y, f, refl, refl, λ s. s); processes = λ q. refl; next = refl; frames = refl; limit = refl; files = refl };
    sleep = λ w s o. (w, s, o);
  })

  pub coherent_script : Coherent (after pair (Events.Script k))
  coherent_script = coherent-later pair c p there (side_of pair p) node pair.frames pair.free pair.last
      (keeping-quiet pair c p there node pair.frames pair.last
      (λ q. keeps_script p k h q (side_of pair q) pair.workers (ring_number pair) (c.whole q)) goes.goes (sleeping-after none pair.node node goes awake c.sleeping))

  pub simulated_pair_script : SimulatedPair pair (Events.Script k)
  simulated_pair_script = simulated-pair pair p (has-side pair c.known p there) (Events.Script k) refl (simulated_script p k h allowed) refl refl (λ q s n f. refl)
