-- Wait keeps what holds of every process, and is the step Wait of the one-kernel machine.
use Rattle.kernel_model.specs.declared.steps.Step.TheVariants as Steps
use Rattle.hybrid_model.specs.declared.events.Event.TheVariants as Events
use Rattle.hybrid_laws.proofs.maps.Tests.{both, some-is}
use Rattle.hybrid_laws.proofs.memory.ViewShown.{shown-view}
use Rattle.hybrid_laws.proofs.node.Keeps.{Keeps, is_pinned, node-keeps}
use Rattle.hybrid_laws.proofs.node.LocalKeeps.{wait_over-keeps}
use Rattle.hybrid_laws.proofs.node.Primitives.{same-node}
use Rattle.hybrid_laws.proofs.node.Threads.{IsThread, idle-one, thread-is}
use Rattle.hybrid_laws.proofs.run.Run.{TableApart}
use Rattle.hybrid_laws.proofs.states.Simulated.{simulated-one}
use Rattle.hybrid_laws.specs.Simulated.{Simulated}
use Rattle.hybrid_model.specs.Coherence.{OfProcess}
use Rattle.hybrid_model.specs.Events.{after_here, may_here}
use Rattle.hybrid_model.specs.OneProcess.{view_here}
use Rattle.hybrid_model.specs.Pairs.{Here}
use Rattle.hybrid_model.specs.Sides.{Side}
use Rattle.kernel_model.specs.Nodes.{Node, Thread, is_living, thread_of}
use Rattle.kernel_model.specs.Traps.{may_end_wait_of, may_wait, wait_of, waited, waited_for}
use Rattle.kernel_model.specs.declared.Does.TheVariants.{Asleep, Called, InVm, InWait, Ready, Stopped}
use Rattle.kernel_model.specs.declared.Does.{Does}
use Rattle.mck_word.specs.Identifiers.{pid}
use Rattle.mck_word.specs.Maps.{at}
use Rattle.mck_word.specs.declared.Tid.{Tid}
use Rattle.std.proofs.Common.{ap, arith, refl, sym, ◌∙◌}
use Rattle.std.proofs.lemmas.Bool.Decides.{nat_tests}
use Rattle.std.specs.Prelude.{None, Option, Some, false, is_some, true, ℕ, ℤ, ◌&&◌, ◌==◌, ◌≡◌}

-- a thread that waits for a child
pub waits-free : (d : Does) (w : ℤ × ℕ) → wait_of d ≡ Some w → is_pinned d ≡ false
waits-free (InWait pid status) w e = refl
waits-free Ready w e = absurd (grind (arith, e))
waits-free (Stopped s) w e = absurd (grind (arith, e))
waits-free Called w e = absurd (grind (arith, e))
waits-free (InVm c) w e = absurd (grind (arith, e))
waits-free (Asleep a) w e = absurd (grind (arith, e))

pub record MayWait (node : Node) (t : ℕ) : Type 0 where
  pub thread : Thread
  pub there : IsThread node t thread
  pub free : is_pinned thread.does ≡ false

pub may-wait : (node : Node) (t : ℕ) → may_wait node t ≡ true → MayWait node t
may-wait node t e =
    let x = thread_of node t in
    let a = both (is_some (at node.threads t) && is_living node x.process) (may_end_wait_of node x.process (wait_of x.does)) e in
    let b = both (is_some (at node.threads t)) (is_living node x.process) a.0 in
    let y = some-is (at node.threads t) b.0 in
    let f = thread-is node t y.0 y.1 in
    record { thread = y.0; there = y.1; free = ap (λ (z : Thread). is_pinned z.does) (sym f) ∙ waiting (thread_of node t).does (wait_of x.does) refl a.1 }
  where
    waiting : (d : Does) (o : Option (ℤ × ℕ)) → wait_of d ≡ o → may_end_wait_of node (thread_of node t).process o ≡ true → is_pinned d ≡ false
    waiting d None f k = absurd (grind (arith, k))
    waiting d (Some w) f k = waits-free d w f

module _ (p : ℕ) (t : Tid) (h : Here) (m : may_here (Events.Wait t) h ≡ true) where
  waited-keeps : (q : ℕ) → Keeps q (λ u. u == t.0) h.node (waited t.0 (view_here h)).node
  unfolding waited
  waited-keeps q = go (wait_of (thread_of h.node t.0).does)
    where
      go : (o : Option (ℤ × ℕ)) → Keeps q (λ u. u == t.0) h.node (waited_for t.0 (view_here h) o).node
      go None = same-node q (λ u. u == t.0) h.node
      go (Some w) = wait_over-keeps q (λ u. u == t.0) t.0 (let e : (t.0 == t.0) ≡ true = grind (arith, nat_tests) in e) w.0 w.1 (view_here h)

  pub keeps_wait : (q : ℕ) (side : Side) (workers : ℕ) (ring : ℕ → ℕ) → OfProcess q side h.node workers ring → OfProcess q side (after_here (Events.Wait t) p h).node workers ring
  keeps_wait q side workers ring k =
      let w = may-wait h.node t.0 m in
      node-keeps q (λ u. u == t.0) side h.node (waited t.0 (view_here h)).node workers ring (waited-keeps q) (idle-one q t.0 h.node w.thread w.there w.free) k

  pub simulated_wait : TableApart h.side.lwk.table → h.born ≡ None → Simulated (Events.Wait t) p h
  simulated_wait apart none = simulated-one (Events.Wait t) p h (Steps.Wait t) refl m (shown-view h (waited t.0 (view_here h)) apart none)
