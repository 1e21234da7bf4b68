-- Run keeps what holds of every process, and is as many steps Instr of the one-kernel machine as it executes instructions.
use Rattle.kernel_model.specs.declared.steps.Step.TheVariants as Steps
use Rattle.hybrid_laws.proofs.maps.Tests.{both, not-true, some-is}
use Rattle.hybrid_laws.proofs.memory.Shapes.{run_for-rights, shown-back}
use Rattle.hybrid_laws.proofs.node.EventKeeps.{run_for-keeps}
use Rattle.hybrid_laws.proofs.node.Keeps.{node-keeps}
use Rattle.hybrid_laws.proofs.node.Threads.{IsThread, counted-deliverable, counted-living, counted-more, counted-thread, idle-one, ready-is, thread-is}
use Rattle.hybrid_laws.specs.Simulated.{Simulated, steps_after, steps_may}
use Rattle.hybrid_model.specs.Coherence.{OfProcess}
use Rattle.hybrid_model.specs.Events.{after_here, may_here}
use Rattle.hybrid_model.specs.OneProcess.{memory_here}
use Rattle.hybrid_model.specs.Run.{left_of_limit, length_of_run, may_run_for, ran, run, run_for}
use Rattle.hybrid_model.specs.Pairs.{Here}
use Rattle.hybrid_model.specs.Shown.{shown_born, shown_call, shown_here}
use Rattle.hybrid_model.specs.Sides.{Row, Side}
use Rattle.hybrid_model.specs.declared.events.Event.TheVariants.{Run}
use Rattle.isa_model.specs.Instr.{instr}
use Rattle.isa_model.specs.Table.{table}
use Rattle.kernel_model.specs.Nodes.{Node, Thread, instructions_in_all, is_living, ready_to_run, thread_of}
use Rattle.kernel_model.specs.OneKernel.{OneHere, Own, Call as OneCall}
use Rattle.kernel_model.specs.Signals.{is_deliverable}
use Rattle.kernel_model.specs.Traps.{Ran, does_after, executed, may_run}
use Rattle.kernel_model.specs.declared.Does.TheVariants.{Ready}
use Rattle.mck_word.specs.Maps.{Map, at, each}
use Rattle.mck_word.specs.declared.Tid.{Tid}
use Rattle.std.proofs.Common.{ap, arith, refl, sym, ◌∙◌}
use Rattle.std.proofs.lemmas.Bool.Decides.{nat_tests}
use Rattle.std.specs.Prelude.{Bool, Option, Some, cond, false, is_some, nat_le, nat_lt, not, replicate, suc, true, zero, ℕ, ◌%◌, ◌&&◌, ◌+◌, ◌==◌, ◌≡◌, ◌≤◌, None, length}

-- the rows of a table have different frames
abbrev pub TableApart : Map Row → Type 0
TableApart table = (i j : ℕ) (r t : Row) → at table i ≡ Some r → at table j ≡ Some t → r.0.0 ≡ t.0.0 → i ≡ j

-- a thread that may run
pub record Runs (node : Node) (t : ℕ) : Type 0 where
  pub thread : Thread
  pub there : IsThread node t thread
  pub ready : thread.does ≡ Ready
  pub living : is_living node thread.process ≡ true
  pub quiet : is_deliverable node t ≡ false

pub may-runs : (node : Node) (t : ℕ) → may_run node t ≡ true → Runs node t
may-runs node t e =
    let x = thread_of node t in
    let a = both (is_some (at node.threads t) && ready_to_run x.does && is_living node x.process) (not (is_deliverable node t)) e in
    let b = both (is_some (at node.threads t) && ready_to_run x.does) (is_living node x.process) a.0 in
    let c = both (is_some (at node.threads t)) (ready_to_run x.does) b.0 in
    let y = some-is (at node.threads t) c.0 in
    let f = thread-is node t y.0 y.1 in
    record {
      thread = y.0;
      there = y.1;
      ready = ready-is y.0.does (ap (λ (z : Thread). ready_to_run z.does) (sym f) ∙ c.1);
      living = ap (λ (z : Thread). is_living node z.process) (sym f) ∙ b.1;
      quiet = not-true (is_deliverable node t) a.1;
    }

pub runs-may : (node : Node) (t : ℕ) → Runs node t → may_run node t ≡ true
runs-may node t r =
    let there = r.there in let ready = r.ready in
    let a : is_some (at node.threads t) ≡ true = ap is_some there in
    let x = thread-is node t r.thread there in
    let b : ready_to_run (thread_of node t).does ≡ true = ap (λ (z : Thread). ready_to_run z.does) x ∙ ap ready_to_run ready in
    let c : is_living node (thread_of node t).process ≡ true = ap (λ (z : Thread). is_living node z.process) x ∙ r.living in
    four (is_some (at node.threads t)) (ready_to_run (thread_of node t).does) (is_living node (thread_of node t).process) (is_deliverable node t) a b c r.quiet
  where
    four : (a b c d : Bool) → a ≡ true → b ≡ true → c ≡ true → d ≡ false → (a && b && c && not d) ≡ true
    four a b c d e f g h = rw (e, f, g, h) refl

pub record MayRun (t n : ℕ) (h : Here) : Type 0 where
  pub runs : Runs h.node t
  pub some : 1 ≤ n
  pub left : n ≤ left_of_limit h.node

pub may-run : (core t n : ℕ) (h : Here) → may_run_for core t n h ≡ true → MayRun t n h
may-run core t n h e =
    let a = both (may_run h.node t && t % h.cores == core && nat_le 1 n && nat_le n 64) (nat_le n (left_of_limit h.node)) e in
    let b = both (may_run h.node t && t % h.cores == core && nat_le 1 n) (nat_le n 64) a.0 in
    let c = both (may_run h.node t && t % h.cores == core) (nat_le 1 n) b.0 in
    let d = both (may_run h.node t) (t % h.cores == core) c.0 in
    record { runs = may-runs h.node t d.0; some = grind (arith, nat_tests, c.1); left = grind (arith, nat_tests, a.1) }

module _ (core n p : ℕ) (t : Tid) (h : Here) (m : may_here (Run core t n) h ≡ true) where
  w : MayRun t.0 n h
  w = may-run core t.0 n h m

  -- every process keeps what holds of it
  pub keeps_run : (q : ℕ) (side : Side) (workers : ℕ) (ring : ℕ → ℕ) → OfProcess q side h.node workers ring → OfProcess q side (after_here (Run core t n) p h).node workers ring
  unfolding run
  keeps_run q side workers ring k =
      node-keeps q (λ u. u == t.0) side h.node (ran t.0 n h).node workers ring
      (run_for-keeps q (λ u. u == t.0) n t.0 (record { node = h.node; memory = memory_here h }) (let e : (t.0 == t.0) ≡ true = grind (arith, nat_tests) in e))
      (idle-one q t.0 h.node w.runs.thread w.runs.there (let r = w.runs.ready in rw r refl)) k

-- ---- the steps
module _ (p : ℕ) (t : Tid) (calls : Map OneCall) (free : ℕ) (born : Option (ℕ × Own)) where
  abbrev pub ran_shown : Ran → OneHere
  ran_shown v = record { own = record { memory = v.memory; calls = calls }; node = v.node; free = free; born = born }

  pub run-after : (n : ℕ) (v : Ran) → steps_after p (replicate (length_of_run n t.0 v) (Steps.Instr t)) (ran_shown v) ≡ ran_shown (run_for n t.0 v)
  run-after zero v = refl
  run-after (suc n) v = go (ready_to_run (thread_of w.node t.0).does) (run-after n w)
    where
      w : Ran
      w = executed t.0 v

      go : (b : Bool) → steps_after p (replicate (length_of_run n t.0 w) (Steps.Instr t)) (ran_shown w) ≡ ran_shown (run_for n t.0 w) → steps_after p (replicate (cond b (length_of_run n t.0 w) zero) (Steps.Instr t)) (ran_shown w) ≡ ran_shown (cond b (run_for n t.0 w) w)
      go true k = k
      go false k = refl

  next-runs : (v : Ran) (r : Runs v.node t.0) → ready_to_run (thread_of (executed t.0 v).node t.0).does ≡ true → Runs (executed t.0 v).node t.0
  next-runs v r e =
      let o = instr (thread_of v.node t.0).regs v.memory in
      let a = counted-thread v.node t.0 o r.thread r.there in
      let f = thread-is (executed t.0 v).node t.0 (record r.thread { regs = o.regs; does = does_after o.stop; back = false }) a in
      record {
        thread = record r.thread { regs = o.regs; does = does_after o.stop; back = false };
        there = a;
        ready = ready-is (does_after o.stop) (ap (λ (z : Thread). ready_to_run z.does) (sym f) ∙ e);
        living = counted-living v.node t.0 o r.thread r.there r.thread.process ∙ r.living;
        quiet = counted-deliverable v.node t.0 o r.thread r.there ∙ r.quiet;
      }

  pub run-may : (n : ℕ) (v : Ran) → Runs v.node t.0 → instructions_in_all v.node + n ≤ v.node.limit → steps_may p (replicate (length_of_run n t.0 v) (Steps.Instr t)) (ran_shown v) ≡ true
  run-may zero v r l = refl
  run-may (suc n) v r l =
      let a = runs-may v.node t.0 r in
      let b : nat_lt (instructions_in_all v.node) v.node.limit ≡ true = grind (arith, nat_tests, l) in
      rw (a, b) (go (λ e. run-may n w (next-runs v r e) more) (ready_to_run (thread_of w.node t.0).does) refl)
    where
      w : Ran
      w = executed t.0 v

      more : instructions_in_all w.node + n ≤ w.node.limit
      more = let c = counted-more v.node t.0 (instr (thread_of v.node t.0).regs v.memory) r.thread r.there r.living in omega (arith, c, l)

      go : (ready_to_run (thread_of w.node t.0).does ≡ true → steps_may p (replicate (length_of_run n t.0 w) (Steps.Instr t)) (ran_shown w) ≡ true) → (b : Bool) → ready_to_run (thread_of w.node t.0).does ≡ b → steps_may p (replicate (cond b (length_of_run n t.0 w) zero) (Steps.Instr t)) (ran_shown w) ≡ true
      go f true e = f e
      go f false e = refl

module _ (core n p : ℕ) (t : Tid) (h : Here) (m : may_here (Run core t n) h ≡ true) (apart : TableApart h.side.lwk.table) (none : h.born ≡ None) where
  abbrev begins : Ran
  begins = record { node = h.node; memory = memory_here h }

  -- the memory is written back as it is
  pub run-shown : ran_shown p t (each (shown_call h.side) h.side.lwk.callers) (length h.free) (shown_born h.frames h.born) (run_for n t.0 begins) ≡ shown_here (run t.0 n h)
  unfolding run
  run-shown =
      let a = sym (shown-back h.side.lwk.table h.frames (run_for n t.0 begins).memory apart (run_for-rights n t.0 begins)) in
      rw none (λ i. record { own = record { memory = a i; calls = each (shown_call h.side) h.side.lwk.callers }; node = (run_for n t.0 begins).node; free = length h.free; born = None })

  pub simulated_run : Simulated (Run core t n) p h
  simulated_run =
      let x = may-run core t.0 n h m in
      record {
        may_happen = run-may p t (each (shown_call h.side) h.side.lwk.callers) (length h.free) (shown_born h.frames h.born) n begins x.runs (left x.some x.left);
        leads = run-after p t (each (shown_call h.side) h.side.lwk.callers) (length h.free) (shown_born h.frames h.born) n begins ∙ run-shown;
      }
    where
      left : 1 ≤ n → n ≤ left_of_limit h.node → instructions_in_all h.node + n ≤ h.node.limit
      left s l = omega (arith, s, l)
