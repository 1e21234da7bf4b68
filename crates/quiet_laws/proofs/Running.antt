-- A run whose thread is ready before and after leaves the plain node and the sides as they were.
use Rattle.hybrid_model.specs.Events.{after, may}
use Rattle.hybrid_model.specs.Pairs.{Pair, here, side_of}
use Rattle.hybrid_model.specs.Run.{left_of_limit, run, run_for}
use Rattle.hybrid_model.specs.OneProcess.{memory_here}
use Rattle.hybrid_model.specs.Sides.{new_side}
use Rattle.hybrid_model.specs.declared.events.Event.TheVariants.{Run}
use Rattle.isa_model.specs.Instr.{Outcome, instr}
use Rattle.kernel_model.specs.Nodes.{Node, Process, Thread, has_thread, is_living, is_there, no_thread, ready_to_run, thread_of}
use Rattle.kernel_model.specs.Signals.{is_deliverable}
use Rattle.kernel_model.specs.Traps.{Ran, counted, does_after, executed, may_run}
use Rattle.kernel_model.specs.declared.Does.TheVariants.{Asleep, Called, InVm, InWait, Ready, Stopped}
use Rattle.kernel_model.specs.declared.Does.{Does}
use Rattle.mck_word.specs.EachLaws.{at-each, each-put}
use Rattle.mck_word.specs.MapLaws.{at-put, same_rows}
use Rattle.mck_word.specs.Maps.{Map, at, change, change_row, each, put}
use Rattle.mck_word.specs.declared.Tid.{Tid}
use Rattle.quiet_laws.proofs.Plain.{plain, plain_process, plain_thread}
use Rattle.std.proofs.Common.{ap, arith, refl, sym, ◌∙◌}
use Rattle.std.proofs.lemmas.Bool.Decides.{nat_tests}
use Rattle.std.specs.Prelude.{Bool, None, Option, Some, cond, false, nat_le, not, option_map, suc, true, unwrap_or, zero, ℕ, ◌%◌, ◌&&◌, ◌+◌, ◌==◌, ◌≡◌}

left-one : (a b : Bool) → (a && b) ≡ true → a ≡ true
left-one true b e = refl
left-one false b e = absurd (grind (arith, e))

right-one : (a b : Bool) → (a && b) ≡ true → b ≡ true
right-one true b e = e
right-one false b e = absurd (grind (arith, e))

ready-is : (d : Does) → ready_to_run d ≡ true → d ≡ Ready
ready-is Ready e = refl
ready-is (Stopped s) e = absurd (grind (arith, e))
ready-is Called e = absurd (grind (arith, e))
ready-is (InVm c) e = absurd (grind (arith, e))
ready-is (Asleep a) e = absurd (grind (arith, e))
ready-is (InWait n s) e = absurd (grind (arith, e))

-- ---- a row put that is seen as the one before
module _ {V : Type 0} where
  put-own : (m : Map V) (k : ℕ) (v : V) → at m k ≡ Some v → put m k v ≡ m
  put-own m k v e = same_rows (put m k v) m (λ q. at-put m k v q ∙ go q (q == k) refl)
    where
      go : (q : ℕ) (b : Bool) → (q == k) ≡ b → cond b (Some v) (at m q) ≡ at m q
      go q true h = let g : q ≡ k = grind (arith, nat_tests, h) in sym (ap (at m) g ∙ e)
      go q false h = refl

module _ {V W : Type 0} where
  put-seen : (f : V → W) (m : Map V) (k : ℕ) (v w : V) → at m k ≡ Some v → f w ≡ f v → each f (put m k w) ≡ each f m
  put-seen f m k v w e g = each-put f m k w ∙ ap (put (each f m) k) g ∙ put-own (each f m) k (f v) (at-each f m k ∙ ap (option_map f) e)

-- ---- one instruction
processes-seen : (m : Map Process) (p : ℕ) → each plain_process (change m p (λ x. record x { instructions = x.instructions + 1 })) ≡ each plain_process m
processes-seen m p = go (at m p) refl
  where
    go : (o : Option Process) → at m p ≡ o → each plain_process (change_row m p (λ x. record x { instructions = x.instructions + 1 }) o) ≡ each plain_process m
    go None e = refl
    go (Some x) e = put-seen plain_process m p x (record x { instructions = x.instructions + 1 }) e refl

module _ (t : ℕ) (o : Outcome) where
  abbrev moved : Thread → Thread
  moved x = record x { regs = o.regs; does = does_after o.stop; back = false }

  threads-seen : (m : Map Thread) → ready_to_run (unwrap_or (at m t) no_thread).does ≡ true
      → ready_to_run (unwrap_or (at (change m t moved) t) no_thread).does ≡ true → each plain_thread (change m t moved) ≡ each plain_thread m
  threads-seen m = go (at m t) refl
    where
      own : (t == t) ≡ true
      own = grind (arith, nat_tests)

      found : (x : Thread) → at (put m t (moved x)) t ≡ Some (moved x)
      found x = at-put m t (moved x) t ∙ ap (λ b. cond b (Some (moved x)) (at m t)) own

      go : (z : Option Thread) → at m t ≡ z → ready_to_run (unwrap_or z no_thread).does ≡ true
          → ready_to_run (unwrap_or (at (change_row m t moved z) t) no_thread).does ≡ true → each plain_thread (change_row m t moved z) ≡ each plain_thread m
      go None e r s = refl
      go (Some x) e r s =
          let before = ready-is x.does r in
          let later = ready-is (does_after o.stop) (ap (λ z. ready_to_run (unwrap_or z no_thread).does) (sym (found x)) ∙ s) in
          put-seen plain_thread m t x (moved x) e (ap (λ d. plain_thread (record x { does = d })) (later ∙ sym before))

  counted-plain : (a : Node) → ready_to_run (thread_of a t).does ≡ true → ready_to_run (thread_of (counted t o a) t).does ≡ true → plain (counted t o a) ≡ plain a
  counted-plain a r s = λ i. record a {
    threads = threads-seen a.threads r s i;
    processes = processes-seen a.processes (thread_of a t).process i;
  }

-- ---- as many as a run takes
abbrev IsReady : ℕ → Ran → Type 0
IsReady t v = ready_to_run (thread_of v.node t).does ≡ true

run-plain : (n t : ℕ) (v : Ran) → IsReady t v → IsReady t (run_for n t v) → plain (run_for n t v).node ≡ plain v.node
run-plain zero t v r s = refl
run-plain (suc n) t v r s = go (ready_to_run (thread_of w.node t).does) refl s (run-plain n t w)
  where
    w : Ran
    w = executed t v

    one : IsReady t w → plain w.node ≡ plain v.node
    one k = counted-plain t (instr (thread_of v.node t).regs v.memory) v.node r k

    go : (b : Bool) → ready_to_run (thread_of w.node t).does ≡ b → IsReady t (cond b (run_for n t w) w)
        → (IsReady t w → IsReady t (run_for n t w) → plain (run_for n t w).node ≡ plain w.node) → plain (cond b (run_for n t w) w).node ≡ plain v.node
    go true e k f = f e k ∙ one e
    go false e k f = absurd (grind (arith, e, k))

-- ---- the whole state
module _ (pair : Pair) (core : ℕ) (t : Tid) (n : ℕ) where
  begins-ready : may pair (Run core t n) ≡ true → ready_to_run (thread_of pair.node t.0).does ≡ true
  begins-ready m =
      let x = thread_of pair.node t.0 in
      let a = right-one (is_there pair.node x.process) (may_run pair.node t.0 && t.0 % pair.cores == core && nat_le 1 n && nat_le n 64 && nat_le n (left_of_limit pair.node)) m in
      let b = left-one (may_run pair.node t.0 && t.0 % pair.cores == core && nat_le 1 n && nat_le n 64) (nat_le n (left_of_limit pair.node)) a in
      let c = left-one (may_run pair.node t.0 && t.0 % pair.cores == core && nat_le 1 n) (nat_le n 64) b in
      let d = left-one (may_run pair.node t.0 && t.0 % pair.cores == core) (nat_le 1 n) c in
      let e = left-one (may_run pair.node t.0) (t.0 % pair.cores == core) d in
      let f = left-one (has_thread pair.node t.0 && ready_to_run x.does && is_living pair.node x.process) (not (is_deliverable pair.node t.0)) e in
      let g = left-one (has_thread pair.node t.0 && ready_to_run x.does) (is_living pair.node x.process) f in
      right-one (has_thread pair.node t.0) (ready_to_run x.does) g

  pub later-plain : may pair (Run core t n) ≡ true → ready_to_run (thread_of (after pair (Run core t n)).node t.0).does ≡ true
      → plain (after pair (Run core t n)).node ≡ plain pair.node
  unfolding run
  later-plain m r = run-plain n t.0 (record { node = pair.node; memory = memory_here (here pair (thread_of pair.node t.0).process) }) (begins-ready m) r

  pub later-side : (q : ℕ) → side_of (after pair (Run core t n)) q ≡ side_of pair q
  unfolding run
  later-side q = ap (λ o. unwrap_or o (new_side 0)) (at-put pair.sides own (side_of pair own) q) ∙ go (q == own) refl
    where
      own : ℕ
      own = (thread_of pair.node t.0).process

      go : (b : Bool) → (q == own) ≡ b → unwrap_or (cond b (Some (side_of pair own)) (at pair.sides q)) (new_side 0) ≡ side_of pair q
      go true e = let g : q ≡ own = grind (arith, nat_tests, e) in ap (side_of pair) (sym g)
      go false e = refl
