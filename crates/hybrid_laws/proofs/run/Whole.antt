-- Run in the whole state.
use Rattle.hybrid_model.specs.declared.events.Event.TheVariants as Events
use Rattle.file_model.specs.Files.{Files, description_of}
use Rattle.hybrid_laws.proofs.maps.Sums.{counted_in, total-cut}
use Rattle.hybrid_laws.proofs.maps.Tests.{both}
use Rattle.hybrid_laws.proofs.node.Goes.{IsAwake, SleeperIs, awake-stay}
use Rattle.hybrid_laws.proofs.node.Primitives.{at-change}
use Rattle.hybrid_laws.proofs.node.Sound.{Stays, WasIn, is-awake, same-ended, same-made, sleep-once, sleepers-are, sleeping-of, sound-of, standing, stays-sound, stays-then}
use Rattle.hybrid_laws.proofs.node.Threads.{counted-deliverable, counted-living, counted-more, counted-thread, ready-is, thread-is, thread-other}
use Rattle.hybrid_laws.proofs.run.Run.{MayRun, Runs, keeps_run, may-run}
use Rattle.hybrid_laws.proofs.states.Node.{Keeping, coherent-later}
use Rattle.hybrid_laws.proofs.states.Pair.{there-open}
use Rattle.hybrid_laws.proofs.states.Quiet.{own-frames}
use Rattle.hybrid_laws.specs.Stopped.{stops}
use Rattle.hybrid_model.specs.Events.{after, may, may_here}
use Rattle.hybrid_model.specs.Globals.{Coherent, Sleeping, holders, ring_number}
use Rattle.hybrid_model.specs.Turns.{pipe_end}
use Rattle.hybrid_model.specs.OneProcess.{memory_here}
use Rattle.hybrid_model.specs.Run.{run, run_for}
use Rattle.hybrid_model.specs.Pairs.{Here, Pair, here, side_of}
use Rattle.hybrid_model.specs.Sides.{service_of}
use Rattle.hybrid_model.specs.Tallies.{Each, as_number, if_same, tally}
use Rattle.isa_model.specs.Instr.{Outcome, instr}
use Rattle.kernel_model.specs.Nodes.{Node, Process, Sleeper, Thread, change_thread, instructions_in_all, is_asleep, is_stopped, is_there, ready_to_run, thread_of}
use Rattle.kernel_model.specs.Traps.{Ran, counted, does_after, executed}
use Rattle.mck_word.specs.MapLaws.{at-cut, same_rows}
use Rattle.mck_word.specs.Maps.{at, change, cut, total}
use Rattle.mck_word.specs.declared.Tid.{Tid}
use Rattle.std.proofs.Common.{ap, arith, refl, subst, sym, ◌∙◌}
use Rattle.std.proofs.lemmas.Bool.Decides.{nat_tests}
use Rattle.std.specs.Prelude.{Bool, None, Option, Some, cond, false, option_map, suc, true, zero, ℕ, ◌+◌, ◌==◌, ◌≡◌, ◌≤◌}

-- ---- what one instruction leaves of the node
module _ (a : Node) (t : ℕ) (o : Outcome) where
  abbrev moved : Thread → Thread
  moved x = record x { regs = o.regs; does = does_after o.stop; back = false }

  abbrev more : Process → Process
  more x = record x { instructions = x.instructions + 1 }

  abbrev with_moved : Node
  with_moved = change_thread t moved a

  counted-other : (u : ℕ) → (u == t) ≡ false → at (counted t o a).threads u ≡ at a.threads u
  counted-other u n = thread-other a t u moved n

  counted-stays : Stays a (counted t o a)
  counted-stays = record {
    rows = λ u y e. row u y (u == t) refl e;
    processes = λ q. ap standing (at-change a.processes (thread_of a t).process more q) ∙ stands q (q == (thread_of a t).process) refl;
    next = refl;
  }
    where
      row : (u : ℕ) (y : Thread) (b : Bool) → (u == t) ≡ b → at (change a.threads t moved) u ≡ Some y → WasIn (at a.threads u) y
      row u y false f e = (y, sym (thread-other a t u moved f) ∙ e, refl, refl)
      row u y true f e = by-row (at a.threads t) (sym (at-change a.threads t moved u ∙ ap (λ b. cond b (option_map moved (at a.threads t)) (at a.threads u)) f) ∙ e) (let g : u ≡ t = grind (arith, nat_tests, f) in ap (at a.threads) g)
        where
          by-row : (z : Option Thread) → option_map moved z ≡ Some y → at a.threads u ≡ z → WasIn (at a.threads u) y
          by-row None k g = absurd (grind (arith, k))
          by-row (Some x) k g = let s : moved x ≡ y = cc in (x, g, ap (λ (w : Thread). w.process) (sym s), ap (λ (w : Thread). w.place) (sym s))

      same : (z : Option Process) → standing (option_map more z) ≡ standing z
      same None = refl
      same (Some x) = refl

      stands : (q : ℕ) (b : Bool) → (q == (thread_of a t).process) ≡ b → standing (cond b (option_map more (at a.processes (thread_of a t).process)) (at a.processes q)) ≡ standing (at a.processes q)
      stands q false f = refl
      stands q true f = let g : q ≡ (thread_of a t).process = grind (arith, nat_tests, f) in same (at a.processes (thread_of a t).process) ∙ ap (λ (j : ℕ). standing (at a.processes j)) (sym g)

-- ---- what a run leaves
pub record Runs_on (t : ℕ) (a b : Node) : Type 0 where
  pub stays : Stays a b
  pub others : (u : ℕ) → (u == t) ≡ false → at b.threads u ≡ at a.threads u
  pub sleepers : b.sleepers ≡ a.sleepers
  pub files : b.files ≡ a.files
  pub frames : b.frame_count ≡ a.frame_count
  pub limit : b.limit ≡ a.limit

on-then : (t : ℕ) (a b c : Node) → Runs_on t a b → Runs_on t b c → Runs_on t a c
on-then t a b c f g = record {
  stays = stays-then a b c f.stays g.stays;
  others = λ u n. g.others u n ∙ f.others u n;
  sleepers = g.sleepers ∙ f.sleepers;
  files = g.files ∙ f.files;
  frames = g.frames ∙ f.frames;
  limit = g.limit ∙ f.limit;
}

on-same : (t : ℕ) (a : Node) → Runs_on t a a
on-same t a = record { stays = record { rows = λ u y e. (y, e, refl, refl); processes = λ q. refl; next = refl }; others = λ u n. refl; sleepers = refl; files = refl; frames = refl; limit = refl }

counted-on : (a : Node) (t : ℕ) (o : Outcome) → Runs_on t a (counted t o a)
counted-on a t o = record { stays = counted-stays a t o; others = counted-other a t o; sleepers = refl; files = refl; frames = refl; limit = refl }

pub run-on : (n t : ℕ) (v : Ran) → Runs_on t v.node (run_for n t v).node
run-on zero t v = on-same t v.node
run-on (suc n) t v = on-then t v.node w.node (run_for (suc n) t v).node (counted-on v.node t (instr (thread_of v.node t).regs v.memory)) (go (ready_to_run (thread_of w.node t).does) (run-on n t w))
  where
    w : Ran
    w = executed t v

    go : (b : Bool) → Runs_on t w.node (run_for n t w).node → Runs_on t w.node (cond b (run_for n t w) w).node
    go true k = k
    go false k = on-same t w.node

module _ (t : ℕ) where
  next-runs : (v : Ran) (r : Runs v.node t) → ready_to_run (thread_of (executed t v).node t).does ≡ true → Runs (executed t v).node t
  next-runs v r e =
      let o = instr (thread_of v.node t).regs v.memory in
      let a = counted-thread v.node t o r.thread r.there in
      let f = thread-is (executed t v).node t (record r.thread { regs = o.regs; does = does_after o.stop; back = false }) a in
      record {
        thread = record r.thread { regs = o.regs; does = does_after o.stop; back = false };
        there = a;
        ready = ready-is (does_after o.stop) (ap (λ (z : Thread). ready_to_run z.does) (sym f) ∙ e);
        living = counted-living v.node t o r.thread r.there r.thread.process ∙ r.living;
        quiet = counted-deliverable v.node t o r.thread r.there ∙ r.quiet;
      }

  -- the instructions that it counts
  pub run-counts : (n : ℕ) (v : Ran) → Runs v.node t → (instructions_in_all (run_for n t v).node ≤ instructions_in_all v.node + n) × (1 ≤ n → instructions_in_all v.node + 1 ≤ instructions_in_all (run_for n t v).node)
  run-counts zero v r = (omega arith, λ l. absurd (omega (arith, l)))
  run-counts (suc n) v r = go (ready_to_run (thread_of w.node t).does) refl (λ e. run-counts n w (next-runs v r e))
    where
      w : Ran
      w = executed t v

      one : instructions_in_all w.node ≡ instructions_in_all v.node + 1
      one = counted-more v.node t (instr (thread_of v.node t).regs v.memory) r.thread r.there r.living

      at-least : (m : ℕ) (x : Ran) → (instructions_in_all (run_for m t x).node ≤ instructions_in_all x.node + m) × (1 ≤ m → instructions_in_all x.node + 1 ≤ instructions_in_all (run_for m t x).node) → instructions_in_all x.node ≤ instructions_in_all (run_for m t x).node
      at-least zero x k = omega arith
      at-least (suc m) x k = let l = k.1 (omega arith) in omega (arith, l)

      go : (b : Bool) → ready_to_run (thread_of w.node t).does ≡ b → (ready_to_run (thread_of w.node t).does ≡ true → (instructions_in_all (run_for n t w).node ≤ instructions_in_all w.node + n) × (1 ≤ n → instructions_in_all w.node + 1 ≤ instructions_in_all (run_for n t w).node))
          → (instructions_in_all (cond b (run_for n t w) w).node ≤ instructions_in_all v.node + suc n) × (1 ≤ suc n → instructions_in_all v.node + 1 ≤ instructions_in_all (cond b (run_for n t w) w).node)
      go true e f = let k = f e in let l = k.0 in let m = at-least n w k in (omega (arith, one, l), λ _. omega (arith, one, m))
      go false e f = (omega (arith, one), λ _. omega (arith, one))

-- at most one thread more is Stopped
pub stops-one : (t : ℕ) (a b : Node) → ((u : ℕ) → (u == t) ≡ false → at b.threads u ≡ at a.threads u) → total stops b.threads ≤ total stops a.threads + 1
stops-one t a b h =
    let c = same_rows (cut b.threads t) (cut a.threads t) (λ u. at-cut b.threads t u ∙ row u (u == t) refl ∙ sym (at-cut a.threads t u)) in
    let d = total-cut stops b.threads t in
    let e = total-cut stops a.threads t in
    let f = ap (total stops) c in
    let l = at-most (at b.threads t) in
    omega (arith, d, e, f, l)
  where
    row : (u : ℕ) (x : Bool) → (u == t) ≡ x → cond x None (at b.threads u) ≡ cond x None (at a.threads u)
    row u true e = refl
    row u false e = h u e

    bit : (x : Bool) → as_number x ≤ 1
    bit true = omega arith
    bit false = omega arith

    at-most : (o : Option Thread) → counted_in stops o ≤ 1
    at-most None = omega arith
    at-most (Some x) = bit (is_stopped x.does)

module _ (pair : Pair) (c : Coherent pair) (core n : ℕ) (t : Tid) (e : may pair (Events.Run core t n) ≡ true) where
  abbrev p : ℕ
  p = (thread_of pair.node t.0).process

  abbrev h : Here
  h = here pair p

  there : is_there pair.node p ≡ true
  there = (both (is_there pair.node p) (may_here (Events.Run core t n) h) e).0

  allowed : may_here (Events.Run core t n) h ≡ true
  allowed = (both (is_there pair.node p) (may_here (Events.Run core t n) h) e).1

  w : MayRun t.0 n h
  w = may-run core t.0 n h allowed

  abbrev begins : Ran
  begins = record { node = pair.node; memory = memory_here h }

  abbrev node : Node
  node = (run_for n t.0 begins).node

  on : Runs_on t.0 pair.node node
  on = run-on n t.0 begins

  awake : IsAwake t.0 pair.node
  awake = is-awake pair.node t.0 w.runs.thread w.runs.there (ap is_asleep w.runs.ready) c.sleeping

  sleeps : Sleeping node
  sleeps = sleeping-of node
      (subst (Each (SleeperIs node)) (sym on.sleepers) (awake-stay t.0 pair.node node pair.node.sleepers (λ u d x f. (x, on.others u d ∙ f, refl, refl)) awake (sleepers-are pair.node c.sleeping)))
      (λ u. subst (λ ss. tally (λ (s : Sleeper). if_same s.thread u) ss ≤ 1) (sym on.sleepers) (sleep-once pair.node c.sleeping u))

  keeping : Keeping pair c p there (side_of pair p) node (run t.0 n h).frames pair.free (run t.0 n h).last
  unfolding run
  keeping = record {
    own = keeps_run core n p t h allowed p (side_of pair p) pair.workers (ring_number pair) (c.whole p);
    others = λ q d. keeps_run core n p t h allowed q (side_of pair q) pair.workers (ring_number pair) (c.whole q);
    framed = own-frames pair c p;
    rows_below = c.counted.rows_below p;
    free_below = c.counted.free_below;
    counted = refl;
    frame_count = on.frames;
    made = same-made pair.node node on.stays;
    ended_others = λ q d f. sym (same-ended pair.node node on.stays q) ∙ f;
    ended_own = λ f. absurd (let a = there-open pair.node p there in let b = sym (same-ended pair.node node on.stays p) ∙ f in grind (arith, a, b));
    rings = refl;
    turns = λ x u. (u, refl);
    ends = λ t e i u. ap (λ (f : Files). pipe_end f (service_of (side_of pair t.process).linux.services t.request).progress) on.files ∙ u;
    held = λ d. ap (λ (f : Files). (description_of f d).calls + holders d (side_of pair p)) on.files;
    calls = c.calls p;
    sound = stays-sound pair.node node on.stays (sound-of pair c) sleeps;
    paid = (let a = stops-one t.0 pair.node node on.others in let b = (run-counts t.0 n begins w.runs).1 w.some in let d = on.stays.next in omega (arith, a, b, d));
    limit = (let a = (run-counts t.0 n begins w.runs).0 in let b = on.limit in let d = w.left in let s = w.some in omega (arith, a, b, d, s));
  }

  pub coherent_run : Coherent (after pair (Events.Run core t n))
  unfolding run
  coherent_run = coherent-later pair c p there (side_of pair p) node (run t.0 n h).frames pair.free (run t.0 n h).last keeping
