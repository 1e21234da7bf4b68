-- Deliver, Script and Wait in the whole state.
use Rattle.hybrid_model.specs.declared.events.Event.TheVariants as Events
use Rattle.hybrid_laws.proofs.calls.Closed.{deliver-closed}
use Rattle.hybrid_laws.proofs.deliver.Deliver.{keeps_deliver, simulated_deliver}
use Rattle.hybrid_laws.proofs.maps.Tests.{both, some-is}
use Rattle.hybrid_laws.proofs.node.Goes.{GoesAwake, GoesOn, IsAwake, goes-closed}
use Rattle.hybrid_laws.proofs.node.Sound.{is-awake}
use Rattle.hybrid_laws.proofs.node.Threads.{ready-is, thread-is}
use Rattle.hybrid_laws.proofs.states.Node.{coherent-later}
use Rattle.hybrid_laws.proofs.states.Pair.{has-side}
use Rattle.hybrid_laws.proofs.states.Quiet.{apart-own, keeping-quiet, other-shown, sleeping-after}
use Rattle.hybrid_laws.proofs.states.Steps.{SimulatedPair, simulated-pair}
use Rattle.hybrid_model.specs.Events.{may_here, after, may}
use Rattle.hybrid_model.specs.Globals.{Coherent, ring_number}
use Rattle.hybrid_model.specs.Deliver.{after_deliver}
use Rattle.hybrid_model.specs.OneProcess.{memory_here, view_here}
use Rattle.hybrid_model.specs.Pairs.{Here, Pair, here, side_of}
use Rattle.kernel_model.specs.Nodes.{Thread, is_asleep, is_living, is_there, ready_to_run, thread_of}
use Rattle.kernel_model.specs.Signals.{deliver, is_deliverable, stored_all}
use Rattle.mck_word.specs.Maps.{at}
use Rattle.mck_word.specs.declared.Tid.{Tid}
use Rattle.std.proofs.Common.{ap, refl, sym, ◌∙◌}
use Rattle.std.specs.Prelude.{is_some, true, ℕ, ◌&&◌, ◌≡◌}

module _ (pair : Pair) (c : Coherent pair) (t : Tid) (e : may pair (Events.Deliver t) ≡ true) where
  abbrev p : ℕ
  p = (thread_of pair.node t.0).process

  abbrev h : Here
  h = here pair p

  there : is_there pair.node p ≡ true
  there = (both (is_there pair.node p) (may_here (Events.Deliver t) h) e).0

  allowed : may_here (Events.Deliver t) h ≡ true
  allowed = (both (is_there pair.node p) (may_here (Events.Deliver t) h) e).1

  awake : IsAwake t.0 pair.node
  awake =
      let x = thread_of pair.node t.0 in
      let a = both (is_some (at pair.node.threads t.0) && ready_to_run x.does && is_living pair.node x.process) (is_deliverable pair.node t.0) allowed in
      let b = both (is_some (at pair.node.threads t.0) && ready_to_run x.does) (is_living pair.node x.process) a.0 in
      let d = both (is_some (at pair.node.threads t.0)) (ready_to_run x.does) b.0 in
      let y = some-is (at pair.node.threads t.0) d.0 in
      let r = ready-is y.0.does (ap (λ (z : Thread). ready_to_run z.does) (sym (thread-is pair.node t.0 y.0 y.1)) ∙ d.1) in
      is-awake pair.node t.0 y.0 y.1 (ap is_asleep r) c.sleeping

  goes : GoesAwake t.0 pair.node (deliver t.0 (view_here h)).node
  goes = deliver-closed t.0 (GoesAwake t.0) (GoesOn t.0) (goes-closed t.0) (view_here h)

  pub coherent_deliver : Coherent (after pair (Events.Deliver t))
  unfolding after_deliver
  coherent_deliver = coherent-later pair c p there (side_of pair p) (deliver t.0 (view_here h)).node (after_deliver t.0 h).frames pair.free (after_deliver t.0 h).last
      (keeping-quiet pair c p there (deliver t.0 (view_here h)).node (after_deliver t.0 h).frames (after_deliver t.0 h).last
      (λ q. keeps_deliver p t h q (side_of pair q) pair.workers (ring_number pair) (c.whole q)) goes.goes (sleeping-after t.0 pair.node (deliver t.0 (view_here h)).node goes awake c.sleeping))

  pub simulated_pair_deliver : SimulatedPair pair (Events.Deliver t)
  unfolding after_deliver
  simulated_pair_deliver = simulated-pair pair p (has-side pair c.known p there) (Events.Deliver t) refl (simulated_deliver p t h allowed (apart-own pair c p) refl) refl refl
      (λ q s n f. other-shown pair c p (stored_all (deliver t.0 (view_here h)).stores (memory_here h)) q s n f)
