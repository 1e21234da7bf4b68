-- Wait in the whole state.
use Rattle.hybrid_model.specs.declared.events.Event.TheVariants as Events
use Rattle.hybrid_laws.proofs.calls.Closed.{wait_over-closed}
use Rattle.hybrid_laws.proofs.maps.Tests.{both, some-is}
use Rattle.hybrid_laws.proofs.node.Goes.{GoesAwake, GoesOn, IsAwake, goes-closed}
use Rattle.hybrid_laws.proofs.node.Sound.{is-awake}
use Rattle.hybrid_laws.proofs.node.Threads.{thread-is}
use Rattle.hybrid_laws.proofs.states.Node.{coherent-later}
use Rattle.hybrid_laws.proofs.states.Pair.{has-side}
use Rattle.hybrid_laws.proofs.states.Quiet.{apart-own, keeping-quiet, other-shown, sleeping-after}
use Rattle.hybrid_laws.proofs.states.Steps.{SimulatedPair, simulated-pair}
use Rattle.hybrid_laws.proofs.wait.Wait.{keeps_wait, simulated_wait}
use Rattle.hybrid_model.specs.Events.{after, may, may_here}
use Rattle.hybrid_model.specs.Globals.{Coherent, ring_number}
use Rattle.hybrid_model.specs.OneProcess.{memory_here, view_here, with_view}
use Rattle.hybrid_model.specs.Pairs.{Here, Pair, here, side_of}
use Rattle.kernel_model.specs.Nodes.{Node, Thread, is_asleep, is_living, is_there, thread_of}
use Rattle.kernel_model.specs.Signals.{stored_all}
use Rattle.kernel_model.specs.Traps.{may_end_wait_of, wait_of, waited, waited_for}
use Rattle.kernel_model.specs.declared.Does.TheVariants.{Asleep, Called, InVm, InWait, Ready, Stopped}
use Rattle.kernel_model.specs.declared.Does.{Does}
use Rattle.mck_word.specs.Identifiers.{pid}
use Rattle.mck_word.specs.Maps.{at}
use Rattle.mck_word.specs.declared.Tid.{Tid}
use Rattle.std.proofs.Common.{ap, arith, refl, sym, ◌∙◌}
use Rattle.std.specs.Prelude.{None, Option, Some, false, is_some, true, ℕ, ℤ, ◌&&◌, ◌≡◌}

module _ (pair : Pair) (c : Coherent pair) (t : Tid) (e : may pair (Events.Wait t) ≡ true) where
  abbrev p : ℕ
  p = (thread_of pair.node t.0).process

  abbrev h : Here
  h = here pair p

  there : is_there pair.node p ≡ true
  there = (both (is_there pair.node p) (may_here (Events.Wait t) h) e).0

  allowed : may_here (Events.Wait t) h ≡ true
  allowed = (both (is_there pair.node p) (may_here (Events.Wait t) h) e).1

  waiting-awake : (d : Does) (w : ℤ × ℕ) → wait_of d ≡ Some w → is_asleep d ≡ false
  waiting-awake (InWait pid status) w e = refl
  waiting-awake Ready w e = refl
  waiting-awake (Stopped s) w e = refl
  waiting-awake Called w e = refl
  waiting-awake (InVm x) w e = refl
  waiting-awake (Asleep a) w e = absurd (grind (arith, e))

  awake : IsAwake t.0 pair.node
  awake =
      let x = thread_of pair.node t.0 in
      let a = both (is_some (at pair.node.threads t.0) && is_living pair.node x.process) (may_end_wait_of pair.node x.process (wait_of x.does)) allowed in
      let b = both (is_some (at pair.node.threads t.0)) (is_living pair.node x.process) a.0 in
      let y = some-is (at pair.node.threads t.0) b.0 in
      is-awake pair.node t.0 y.0 y.1 (ap (λ (z : Thread). is_asleep z.does) (sym (thread-is pair.node t.0 y.0 y.1)) ∙ go (wait_of x.does) refl a.1) c.sleeping
    where
      go : (o : Option (ℤ × ℕ)) → wait_of (thread_of pair.node t.0).does ≡ o → may_end_wait_of pair.node (thread_of pair.node t.0).process o ≡ true → is_asleep (thread_of pair.node t.0).does ≡ false
      go None f k = absurd (grind (arith, k))
      go (Some w) f k = waiting-awake (thread_of pair.node t.0).does w f

  abbrev node : Node
  node = (waited t.0 (view_here h)).node

  goes : GoesAwake t.0 pair.node node
  unfolding waited
  goes = go (wait_of (thread_of pair.node t.0).does)
    where
      go : (o : Option (ℤ × ℕ)) → GoesAwake t.0 pair.node (waited_for t.0 (view_here h) o).node
      go None = (goes-closed t.0).same pair.node
      go (Some w) = wait_over-closed t.0 (GoesAwake t.0) (GoesOn t.0) (goes-closed t.0) w.0 w.1 (view_here h)

  pub coherent_wait : Coherent (after pair (Events.Wait t))
  coherent_wait = coherent-later pair c p there (side_of pair p) node (with_view (waited t.0 (view_here h)) h).frames pair.free pair.last
      (keeping-quiet pair c p there node (with_view (waited t.0 (view_here h)) h).frames pair.last
      (λ q. keeps_wait p t h allowed q (side_of pair q) pair.workers (ring_number pair) (c.whole q)) goes.goes (sleeping-after t.0 pair.node node goes awake c.sleeping))

  pub simulated_pair_wait : SimulatedPair pair (Events.Wait t)
  simulated_pair_wait = simulated-pair pair p (has-side pair c.known p there) (Events.Wait t) refl (simulated_wait p t h allowed (apart-own pair c p) refl) refl refl
      (λ q s n f. other-shown pair c p (stored_all (waited t.0 (view_here h)).stores (memory_here h)) q s n f)
