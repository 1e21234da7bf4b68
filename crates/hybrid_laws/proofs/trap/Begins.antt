-- A trap that begins a delegated call: what it keeps, and the step of the one-kernel machine that it is.
use Rattle.kernel_model.specs.Steps as Steps
use Rattle.hybrid_laws.proofs.maps.Tests.{both, some-is}
use Rattle.hybrid_laws.proofs.memory.ViewShown.{none-idle, none_free}
use Rattle.hybrid_laws.proofs.node.Keeps.{Keeps, ThreadKeeps, node-keeps, thread-same}
use Rattle.hybrid_laws.proofs.node.Threads.{IsThread, stopped-is, thread-changed, thread-is, thread-other}
use Rattle.hybrid_laws.proofs.trap.Call.{keeps_begin_call}
use Rattle.hybrid_laws.proofs.trap.CallShown.{calls_begin}
use Rattle.hybrid_laws.specs.OneProcess.{NodeHolds, RingsHold}
use Rattle.hybrid_model.specs.Coherence.{OfProcess}
use Rattle.hybrid_model.specs.Fetch.{first_progress}
use Rattle.hybrid_model.specs.OneProcess.{memory_here, view_here}
use Rattle.hybrid_model.specs.Trap.{begin_call, trapped, call_made}
use Rattle.hybrid_model.specs.Pairs.{Here, ring_of}
use Rattle.hybrid_model.specs.Shown.{shown_born, shown_call, shown_here}
use Rattle.hybrid_model.specs.Sides.{Side}
use Rattle.isa_model.specs.declared.stops.Stop.{Stop}
use Rattle.kernel_model.specs.Nodes.{Node, Thread, change_thread, is_living, is_stopped, set_does, set_pc, thread_of}
use Rattle.kernel_model.specs.OneKernel.{Active}
use Rattle.kernel_model.specs.Progress.{Progress}
use Rattle.kernel_model.specs.Traps.{Begins, may_trap, past_ecall}
use Rattle.kernel_model.specs.declared.Does.TheVariants.{Called, Stopped}
use Rattle.mck_word.specs.Maps.{at, each, put}
use Rattle.std.proofs.Common.{mod-lt, ap, arith, refl, sym, ◌∙◌, subst}
use Rattle.std.proofs.lemmas.Bool.Decides.{nat_tests}
use Rattle.std.specs.Prelude.{Bool, Some, false, is_some, length, true, ℕ, ◌%◌, ◌&&◌, ◌+◌, ◌<◌, ◌==◌, ◌≡◌, ◌≢◌, Option}

-- the thread of a trap
pub record Traps (node : Node) (t : ℕ) : Type 0 where
  pub thread : Thread
  pub there : IsThread node t thread
  pub stop : Stop
  pub stopped : thread.does ≡ Stopped stop

pub may-traps : (node : Node) (t : ℕ) → may_trap node t ≡ true → Traps node t
may-traps node t e =
    let x = thread_of node t in
    let a = both (is_some (at node.threads t) && is_stopped x.does) (is_living node x.process) e in
    let b = both (is_some (at node.threads t)) (is_stopped x.does) a.0 in
    let y = some-is (at node.threads t) b.0 in
    let s = stopped-is y.0.does (ap (λ (z : Thread). is_stopped z.does) (sym (thread-is node t y.0 y.1)) ∙ b.1) in
    record { thread = y.0; there = y.1; stop = s.0; stopped = s.1 }

pub ring-there : (h : Here) (t : ℕ) → RingsHold h → ring_of h t < length h.side.to_linux
ring-there h t r = let m = mod-lt (t % h.cores) {m = h.rings} r.some in let l = r.all in grind (arith, m, l)

module _ (p t : ℕ) (h : Here) (x : Traps h.node t) (progress : Progress) (new : Node) (past : new ≡ (past_ecall t (view_here h)).node) where
  abbrev behind : Thread → Thread
  behind y = record y { regs = set_pc (y.regs.pc + 4) y.regs }

  abbrev calling : Thread
  calling = record (behind x.thread) { does = Called }

  abbrev waits : Node
  waits = set_does t Called (change_thread t behind h.node)

  now : IsThread waits t calling
  now = thread-changed (change_thread t behind h.node) t (λ y. record y { does = Called }) (behind x.thread) (thread-changed h.node t behind x.thread x.there)

  others : (u : ℕ) → u ≢ t → at waits.threads u ≡ at h.node.threads u
  others u n =
      let d : (u == t) ≡ false = grind (arith, nat_tests, n) in
      thread-other (change_thread t behind h.node) t u (λ y. record y { does = Called }) d ∙ thread-other h.node t u behind d

  pub keeps_begins : (workers : ℕ) → x.thread.process ≡ p → NodeHolds h.node → RingsHold h → OfProcess p h.side h.node workers (ring_of h)
      → OfProcess p (trapped p t (Begins new progress) h).side (trapped p t (Begins new progress) h).node workers (ring_of h)
  keeps_begins workers mine nodes rings k =
      let s = x.stopped in
      rw past (keeps_begin_call p h.side h.node waits workers (ring_of h) k t x.thread calling x.there mine (rw s refl) (rw s refl) now refl mine refl others refl nodes.places.apart (ring-there h t rings) progress)

  -- another process
  pub others_begins : (q : ℕ) (side : Side) (workers : ℕ) (ring : ℕ → ℕ) → x.thread.process ≢ q → OfProcess q side h.node workers ring → OfProcess q side (trapped p t (Begins new progress) h).node workers ring
  others_begins q side workers ring other k = subst (λ (m : Node). OfProcess q side (set_does t Called m) workers ring) (sym past) (node-keeps q none_free side h.node waits workers ring keeps (none-idle q h.node) k)
    where
      row : ThreadKeeps q false (Some x.thread) (Some calling)
      row = record {
        kept = λ y e own n l. (let g : x.thread ≡ y = cc in absurd (other (ap (λ (z : Thread). z.process) g ∙ own)));
        called = λ y e own l. (let g : calling ≡ y = cc in absurd (other (ap (λ (z : Thread). z.process) g ∙ own)));
      }

      go : (u : ℕ) (b : Bool) → (u == t) ≡ b → ThreadKeeps q false (at h.node.threads u) (at waits.threads u)
      go u true e = let g : u ≡ t = grind (arith, nat_tests, e) in subst (λ (v : ℕ). ThreadKeeps q false (at h.node.threads v) (at waits.threads v)) (sym g) (subst (λ (o : Option Thread). ThreadKeeps q false o (at waits.threads t)) (sym x.there) (subst (ThreadKeeps q false (Some x.thread)) (sym now) row))
      go u false e = thread-same q false (at h.node.threads u) (at waits.threads u) (others u (λ g. grind (arith, nat_tests, e, g)))

      keeps : Keeps q none_free h.node waits
      keeps = record { threads = λ u. go u (u == t) refl; heap = refl }

  -- the call that is shown
  pub shown_begins : (workers : ℕ) → OfProcess p h.side h.node workers (ring_of h) → progress ≡ first_progress (call_made h.side.book.next t progress)
      → Steps.one_trapped p t (Begins new progress) (shown_here h) ≡ shown_here (trapped p t (Begins new progress) h)
  unfolding begin_call
  shown_begins workers k starts =
      let c = ap (λ (y : Progress). put (each (shown_call h.side) h.side.lwk.callers) t (record { marked = false; status = Active y })) starts ∙ calls_begin p h.side h.node workers (ring_of h) k (ring_of h t) t progress in
      λ i. record { own = record { memory = memory_here h; calls = c i }; node = set_does t Called new; free = length h.free; born = shown_born h.frames h.born }
