-- What the steps of the one-kernel machine leave to do for threads and processes: instructions, deliveries, marks, answers, waits, the script and the end of a process.
use Rattle.file_model.specs.Errno.{ECHILD, EFAULT, EINTR, EPIPE}
use Rattle.file_model.specs.Files.{close_all}
use Rattle.hybrid_laws.proofs.maps.Sums.{counted_in, total-cut, total-le}
use Rattle.isa_model.specs.Instr.{instr}
use Rattle.isa_model.specs.Memory.{may_access}
use Rattle.isa_model.specs.declared.stops.Stop.TheVariants.{Break, Ecall, Illegal, Misaligned, On, Fault as StopFault}
use Rattle.isa_model.specs.declared.stops.Stop.{Stop}
use Rattle.kernel_model.specs.CloneCalls.{ended_child, noted_waited, status_of_life, wait_over, waits_for}
use Rattle.kernel_model.specs.LocalCalls.{answers, refuses}
use Rattle.kernel_model.specs.Nodes.{Node, Process, ScriptLine, Sleeper, Thread, action_of, answered, change_process, change_thread, dies, dying, has_ended, is_living, no_process, no_thread, process_of, sent_back, set_a0, set_pc, thread_of, without_sleeper, without_thread}
use Rattle.kernel_model.specs.SignalSets.{has, with_signal, without_signal}
use Rattle.kernel_model.specs.Signals.{SA_RESETHAND, View, after_reset, deliver, deliver_signal, drop_ignored, enter_handler, frame_address, frame_size, generate_for_process, generate_for_thread, handler_mask, handler_regs, interrupted_regs, is_deliverable, moved_to_own, next_signal, on_node, frame_bytes as signal_frame, store, taken, with_action}
use Rattle.kernel_model.specs.Traps.{Ran, called_back, does_after, executed, finishes, is_error, life_ended, line_is, line_of, process_ended, returns, script_sent, sent, wait_of, waited, waited_for}
use Rattle.kernel_model.specs.declared.Action.{Action}
use Rattle.kernel_model.specs.declared.Change.{Change}
use Rattle.kernel_model.specs.declared.Does.TheVariants.{Asleep, Called, InVm, InWait, Ready, Stopped}
use Rattle.kernel_model.specs.declared.Does.{Does}
use Rattle.kernel_model.specs.declared.Life.TheVariants.{Dying, Ended, Living}
use Rattle.kernel_model.specs.declared.Life.{Life}
use Rattle.mck_word.specs.MapLaws.{at-collect}
use Rattle.mck_word.specs.Maps.{Map, and_then, at, collect, total}
use Rattle.mck_word.specs.Words.{little_endian, refused, word_of}
use Rattle.mck_word.specs.declared.Access.TheVariants.{Write}
use Rattle.mck_word.specs.declared.End.TheVariants.{Killed}
use Rattle.mck_word.specs.declared.Regs.{Regs}
use Rattle.std.proofs.Common.{ap, arith, refl, subst, sym, ◌∙◌}
use Rattle.std.specs.Prelude.{Bool, None, Option, Some, cond, false, filter, is_some, not, pos, slice_set, true, unwrap_or, ℕ, ℤ, ◌+◌, ◌-◌, ◌<◌, ◌==◌, ◌^◌, ◌≡◌, ◌≤◌}
use Rattle.work_laws.proofs.node.Left.{Adds, adds-more, adds-none, adds-then, answered-adds, dies-adds, for_process-adds, for_thread-adds, gone-adds, ignored-adds, process-adds, sent_back-adds, thread-adds, total-changed}
use Rattle.work_laws.proofs.node.Signals.{next-there, none-has, with-most, without-less}
use Rattle.work_laws.specs.KernelLeft.{Prices, node_left, of_does, of_process, of_thread}
use Rattle.work_laws.specs.SignalCount.{signals}

module _ (k : Prices) where
  -- ---- one row of a known thread
  pub thread-exact : (a : Node) (t : ℕ) (f : Thread → Thread) (x : Thread) → at a.threads t ≡ Some x → node_left k (change_thread t f a) + of_thread k.change x ≡ node_left k a + of_thread k.change (f x)
  thread-exact a t f x e = let c = total-changed (of_thread k.change) a.threads t f x e in omega (arith, c)

  gone-exact : (a : Node) (t : ℕ) (x : Thread) → at a.threads t ≡ Some x → node_left k (without_thread t a) + of_thread k.change x ≡ node_left k a
  gone-exact a t x e =
      let c = total-cut (of_thread k.change) a.threads t in
      let d = ap (counted_in (of_thread k.change)) e in
      omega (arith, c, d)

  -- ---- an instruction
  runs-on : (s : Stop) → of_does k.change (does_after s) ≡ 0
  runs-on On = refl
  runs-on Ecall = refl
  runs-on Break = refl
  runs-on Illegal = refl
  runs-on Misaligned = refl
  runs-on (StopFault l) = refl

  pub executed-adds : (t : ℕ) (v : Ran) → Adds k 0 v.node (executed t v).node
  executed-adds t v =
      let e = instr (thread_of v.node t).regs v.memory in
      let f : Thread → Thread = (λ (x : Thread). record x { regs = e.regs; does = does_after e.stop; back = false }) in
      let z = runs-on e.stop in
      let a = change_thread t f v.node in
      adds-then k v.node a _ 0 0 (thread-adds k v.node t f 0 (λ x. omega (arith, z))) (process-adds k a (thread_of v.node t).process (λ p. record p { instructions = p.instructions + 1 }) 0 (λ p. omega arith))

  -- ---- a signal that is taken
  taken-own : (a : Node) (t signal : ℕ) → signal - 1 < 64 → has signal (thread_of a t).pending ≡ true → (o : Option Thread) → at a.threads t ≡ o
      → node_left k (change_thread t (λ (y : Thread). record y { pending = without_signal signal y.pending }) a) + 1 ≤ node_left k a
  taken-own a t signal l h None e = absurd (let z = ap (λ (o : Option Thread). has signal (unwrap_or o no_thread).pending) e in let n = none-has signal in grind (arith, h, z, n))
  taken-own a t signal l h (Some x) e =
      let z = sym (ap (λ (o : Option Thread). has signal (unwrap_or o no_thread).pending) e) ∙ h in
      let c = thread-exact a t (λ y. record y { pending = without_signal signal y.pending }) x e in
      let d = without-less signal x.pending z l in
      omega (arith, c, d)

  taken-shared : (a : Node) (p signal : ℕ) → signal - 1 < 64 → has signal (process_of a p).pending ≡ true → (o : Option Process) → at a.processes p ≡ o
      → node_left k (change_process p (λ (y : Process). record y { pending = without_signal signal y.pending }) a) + 1 ≤ node_left k a
  taken-shared a p signal l h None e = absurd (let z = ap (λ (o : Option Process). has signal (unwrap_or o no_process).pending) e in let n = none-has signal in grind (arith, h, z, n))
  taken-shared a p signal l h (Some x) e =
      let z = sym (ap (λ (o : Option Process). has signal (unwrap_or o no_process).pending) e) ∙ h in
      let c = total-changed (of_process k.process) a.processes p (λ y. record y { pending = without_signal signal y.pending }) x e in
      let d = without-less signal x.pending z l in
      omega (arith, c, d)

  pub taken-less : (a : Node) (t signal : ℕ) → next_signal a t ≡ Some signal → node_left k (taken t signal a) + 1 ≤ node_left k a
  taken-less a t signal e =
      let x = thread_of a t in
      let n = next-there x.pending (process_of a x.process).pending x.mask signal e in
      go n.0 n.1 (has signal x.pending) refl
    where
      go : signal - 1 < 64 → (has signal (thread_of a t).pending ≡ false → has signal (process_of a (thread_of a t).process).pending ≡ true) → (b : Bool) → has signal (thread_of a t).pending ≡ b
          → node_left k (cond b (change_thread t (λ (y : Thread). record y { pending = without_signal signal y.pending }) a) (change_process (thread_of a t).process (λ (p : Process). record p { pending = without_signal signal p.pending }) a)) + 1 ≤ node_left k a
      go l f true h = taken-own a t signal l h (at a.threads t) refl
      go l f false h = taken-shared a (thread_of a t).process signal l (f h) (at a.processes (thread_of a t).process) refl

  pub moved-less : (a : Node) (t : ℕ) → node_left k (moved_to_own t a) ≤ node_left k a
  moved-less a t = go (next_signal a t) refl
    where
      go : (o : Option ℕ) → next_signal a t ≡ o → node_left k (elim o as (λ _. Node) [ None ↦ a | Some signal ↦ change_thread t (λ (y : Thread). record y { pending = with_signal signal y.pending }) (taken t signal a) ]) ≤ node_left k a
      go None e = omega arith
      go (Some signal) e =
          let b = taken-less a t signal e in
          let c = thread-adds k (taken t signal a) t (λ y. record y { pending = with_signal signal y.pending }) 1 (λ x. (let m = with-most signal x.pending in omega (arith, m))) in
          let d = c.less in
          omega (arith, b, d)

  -- ---- a delivery
  with_action-adds : (a : Node) (q signal : ℕ) (new : Action) → Adds k 0 a (with_action q signal new a)
  with_action-adds a q signal new = process-adds k a q (λ x. record x { actions = slice_set x.actions (signal - 1) new }) 0 (λ x. omega arith)

  after_reset-adds : (a : Node) (q signal : ℕ) (act : Action) → Adds k 0 a (after_reset q signal act a)
  after_reset-adds a q signal act = go (SA_RESETHAND act)
    where
      go : (b : Bool) → Adds k 0 a (cond b (drop_ignored q signal (with_action q signal (record act { handler = 0 }) a)) a)
      go true = adds-then k a (with_action q signal (record act { handler = 0 }) a) _ 0 0 (with_action-adds a q signal (record act { handler = 0 })) (ignored-adds k (with_action q signal (record act { handler = 0 }) a) q signal)
      go false = adds-none k a

  module _ (t : ℕ) where
    enter-adds : (signal : ℕ) (act : Action) (v : View) → Adds k 0 v.node (enter_handler t signal act v).node
    enter-adds signal act v = go (may_access v.memory Write sp frame_size)
      where
        x : Thread
        x = thread_of v.node t

        r : Regs
        r = interrupted_regs x.back act x.regs

        sp : ℕ
        sp = frame_address r

        entered : Thread → Thread
        entered y = record y { regs = handler_regs act signal sp r; mask = handler_mask act signal y.mask; back = false }

        stays : Thread → Thread
        stays y = record y { regs = r; back = false }

        go : (b : Bool) → Adds k 0 v.node (cond b (store sp (signal_frame r x.mask) (on_node (λ node. after_reset x.process signal act (change_thread t entered node)) v)) (on_node (λ node. change_process x.process (dies (Killed 11)) (change_thread t stays node)) v)).node
        go true = adds-then k v.node (change_thread t entered v.node) _ 0 0 (thread-adds k v.node t entered 0 (λ y. omega arith)) (after_reset-adds (change_thread t entered v.node) x.process signal act)
        go false = adds-then k v.node (change_thread t stays v.node) _ 0 0 (thread-adds k v.node t stays 0 (λ y. omega arith)) (dies-adds k (change_thread t stays v.node) x.process (λ y. Killed 11))

    deliver_signal-adds : (signal : ℕ) (v : View) → Adds k 0 v.node (deliver_signal t signal v).node
    deliver_signal-adds signal v = go (act.handler == 0)
      where
        q : ℕ
        q = (thread_of v.node t).process

        act : Action
        act = action_of (process_of v.node q) signal

        killed : Thread → Thread
        killed y = record y { regs = interrupted_regs y.back act y.regs; back = false }

        go : (b : Bool) → Adds k 0 v.node (cond b (on_node (λ node. change_process q (dies (Killed signal)) (change_thread t killed node)) v) (enter_handler t signal act v)).node
        go true = adds-then k v.node (change_thread t killed v.node) _ 0 0 (thread-adds k v.node t killed 0 (λ y. omega arith)) (dies-adds k (change_thread t killed v.node) q (λ y. Killed signal))
        go false = enter-adds signal act v

    pub deliver-less : (v : View) → is_deliverable v.node t ≡ true → node_left k (deliver t v).node + 1 ≤ node_left k v.node
    deliver-less v e = go (next_signal v.node t) refl e
      where
        go : (o : Option ℕ) → next_signal v.node t ≡ o → is_some o ≡ true → node_left k (elim o as (λ _. View) [ None ↦ v | Some signal ↦ deliver_signal t signal (on_node (taken t signal) v) ]).node + 1 ≤ node_left k v.node
        go None f u = absurd (grind (arith, u))
        go (Some signal) f u =
            let b = taken-less v.node t signal f in
            let c = (deliver_signal-adds signal (on_node (taken t signal) v)).less in
            omega (arith, b, c)

  -- ---- answers
  pub finishes-adds : (a : Node) (t : ℕ) (answer : ℤ) → Adds k 0 a (finishes t answer a)
  unfolding finishes
  finishes-adds a t answer = go (is_living a (thread_of a t).process)
    where
      go : (b : Bool) → Adds k 0 a (cond b (answered t answer a) (without_thread t a))
      go true = answered-adds k a t answer
      go false = gone-adds k a t

  -- the thread of a change pays for it
  pub finishes-less : (a : Node) (t : ℕ) (answer : ℤ) (x : Thread) (c : Change) → at a.threads t ≡ Some x → x.does ≡ InVm c → node_left k (finishes t answer a) + k.change ≤ node_left k a
  unfolding finishes
  finishes-less a t answer x c there does = go (is_living a (thread_of a t).process)
    where
      priced : of_does k.change x.does ≡ k.change
      priced = ap (of_does k.change) does

      go : (b : Bool) → node_left k (cond b (answered t answer a) (without_thread t a)) + k.change ≤ node_left k a
      go true = let e = thread-exact a t (λ y. record y { regs = set_a0 (word_of answer) y.regs; does = Ready }) x there in let z = priced in omega (arith, e, z)
      go false = let e = gone-exact a t x there in let z = priced in omega (arith, e, z)

  pub returns-adds : (a : Node) (t : ℕ) (answer : ℤ) → Adds k 1 a (returns t answer a)
  unfolding returns
  returns-adds a t answer = go (is_living a (thread_of a t).process) (is_error EINTR answer) (is_error EPIPE answer)
    where
      one : (b : Node) → Adds k 0 a b → Adds k 1 a b
      one b f = adds-more k a b 0 1 (omega arith) f

      go : (b c d : Bool) → Adds k 1 a (cond b (cond c (sent_back t a) (cond d (generate_for_thread t 13 (answered t answer a)) (answered t answer a))) (without_thread t a))
      go true true d = one (sent_back t a) (sent_back-adds k a t)
      go true false true = adds-then k a (answered t answer a) _ 0 1 (answered-adds k a t answer) (for_thread-adds k (answered t answer a) t 13)
      go true false false = one (answered t answer a) (answered-adds k a t answer)
      go false c d = one (without_thread t a) (gone-adds k a t)

  -- ---- a thread that rests
  pub called_back-less : (a : Node) (t : ℕ) (x : Thread) → at a.threads t ≡ Some x → of_does k.change x.does ≡ 1 → node_left k (called_back t a) + 1 ≤ node_left k a
  unfolding called_back
  called_back-less a t x there rests =
      let e = thread-exact (without_sleeper t a) t (λ y. record y { regs = set_pc (y.regs.pc + (2 ^ 64 - 4)) y.regs; back = true; does = Ready }) x there in
      omega (arith, e, rests)

  answered-less : (a : Node) (t : ℕ) (answer : ℤ) (x : Thread) → at a.threads t ≡ Some x → of_does k.change x.does ≡ 1 → node_left k (answered t answer a) + 1 ≤ node_left k a
  answered-less a t answer x there rests = let e = thread-exact a t (λ y. record y { regs = set_a0 (word_of answer) y.regs; does = Ready }) x there in omega (arith, e, rests)

  pub wait_over-less : (t : ℕ) (pid : ℤ) (status : ℕ) (v : View) (x : Thread) → at v.node.threads t ≡ Some x → of_does k.change x.does ≡ 1 → node_left k (wait_over t pid status v).node + 1 ≤ node_left k v.node
  wait_over-less t pid status v x there rests = go (ended_child v.node (thread_of v.node t).process pid)
    where
      noted : (child : ℕ) (answer : ℤ) → node_left k (answered t answer (noted_waited child v).node) + 1 ≤ node_left k v.node
      noted child answer =
          let a = (process-adds k v.node child (λ y. record y { waited = true }) 0 (λ y. omega arith)).less in
          let b = answered-less (noted_waited child v).node t answer x there rests in
          omega (arith, a, b)

      told : (child : ℕ) (b c : Bool) → node_left k (cond b (answers t (pos child) (noted_waited child v)) (cond c (store status (little_endian 4 (status_of_life (process_of v.node child).life)) (answers t (pos child) (noted_waited child v))) (refuses t EFAULT (noted_waited child v)))).node + 1 ≤ node_left k v.node
      told child true c = noted child (pos child)
      told child false true = noted child (pos child)
      told child false false = noted child (refused EFAULT)

      go : (o : Option ℕ) → node_left k (waits_for t pid status v o).node + 1 ≤ node_left k v.node
      go None = answered-less v.node t (refused ECHILD) x there rests
      go (Some child) = told child (status == 0) (may_access v.memory Write status 4)

  pub waited-less : (t : ℕ) (v : View) (x : Thread) → at v.node.threads t ≡ Some x → is_some (wait_of x.does) ≡ true → node_left k (waited t v).node + 1 ≤ node_left k v.node
  unfolding waited
  waited-less t v x there waits = go x.does refl
    where
      row : wait_of (thread_of v.node t).does ≡ wait_of x.does
      row = ap (λ (o : Option Thread). wait_of (unwrap_or o no_thread).does) there

      by : (d : Does) → x.does ≡ d → (w : ℤ × ℕ) → wait_of d ≡ Some w → of_does k.change d ≡ 1 → node_left k (waited_for t v (wait_of (thread_of v.node t).does)).node + 1 ≤ node_left k v.node
      by d e w f one =
          let g = row ∙ ap wait_of e ∙ f in
          let a = wait_over-less t w.0 w.1 v x there (ap (of_does k.change) e ∙ one) in
          subst (λ (o : Option (ℤ × ℕ)). node_left k (waited_for t v o).node + 1 ≤ node_left k v.node) (sym g) a

      no-wait : (d : Does) → x.does ≡ d → is_some (wait_of d) ≡ false → ⊥
      no-wait d e f = let z = ap (λ y. is_some (wait_of y)) e in grind (arith, waits, z, f)

      go : (d : Does) → x.does ≡ d → node_left k (waited_for t v (wait_of (thread_of v.node t).does)).node + 1 ≤ node_left k v.node
      go (InWait pid status) e = by (InWait pid status) e (pid, status) refl refl
      go Ready e = absurd (no-wait Ready e refl)
      go (Stopped s) e = absurd (no-wait (Stopped s) e refl)
      go Called e = absurd (no-wait Called e refl)
      go (InVm c) e = absurd (no-wait (InVm c) e refl)
      go (Asleep a) e = absurd (no-wait (Asleep a) e refl)

  -- ---- the script, and the end of a process
  pub script-adds : (line : ℕ) (a : Node) → Adds k 1 a (script_sent line a)
  unfolding script_sent
  script-adds line a = go (line_of a line)
    where
      go : (o : Option ScriptLine) → Adds k 1 a (sent line a o)
      go None = adds-more k a a 0 1 (omega arith) (adds-none k a)
      go (Some l) =
          let b : Node = record a { unsent = filter (λ x. not (line_is line x)) a.unsent } in
          let c = for_process-adds k b l.process l.signal in
          record { less = (let x = c.less in omega (arith, x)); files = c.files }

  fewer-threads : (m : Map Thread) (p : ℕ) → total (of_thread k.change) (collect (λ t (x : Thread). cond (x.process == p) None (Some x)) m) ≤ total (of_thread k.change) m
  fewer-threads m p = total-le (of_thread k.change) (collect (λ t (x : Thread). cond (x.process == p) None (Some x)) m) m (λ j. (let a = ap (counted_in (of_thread k.change)) (at-collect (λ t (x : Thread). cond (x.process == p) None (Some x)) m j) in let b = row (at m j) in omega (arith, a, b)))
    where
      by : (x : Thread) (b : Bool) → counted_in (of_thread k.change) (cond b None (Some x)) ≤ of_thread k.change x
      by x true = omega arith
      by x false = omega arith

      row : (o : Option Thread) → counted_in (of_thread k.change) (and_then o (λ x. cond (x.process == p) None (Some x))) ≤ counted_in (of_thread k.change) o
      row None = omega arith
      row (Some x) = by x (x.process == p)

  -- a process that is Dying is Ended, which may generate a signal
  pub ended-less : (p : ℕ) (a : Node) (x : Process) → at a.processes p ≡ Some x → dying x.life ≡ true → node_left k (process_ended p a) + k.process ≤ node_left k a + 1
  unfolding process_ended
  ended-less p a x there dies = go (is_living told parent)
    where
      gone : Node
      gone = record a {
        threads = collect (λ t (y : Thread). cond (y.process == p) None (Some y)) a.threads;
        sleepers = filter (λ (y : Sleeper). not (y.process == p)) a.sleepers;
        files = close_all p a.files;
      }

      told : Node
      told = change_process p (λ (y : Process). record y { life = life_ended y.life }) gone

      parent : ℕ
      parent = (process_of a p).parent

      over : (l : Life) → dying l ≡ true → (has_ended l ≡ false) × (has_ended (life_ended l) ≡ true)
      over Living e = absurd (grind (arith, e))
      over (Dying e) f = (refl, refl)
      over (Ended e) f = absurd (grind (arith, f))

      less : node_left k told + k.process ≤ node_left k a
      less =
          let c = total-changed (of_process k.process) a.processes p (λ y. record y { life = life_ended y.life }) x there in
          let d = fewer-threads a.threads p in
          let o = over x.life dies in
          let was = ap (λ b. cond b 0 k.process + signals x.pending) o.0 in
          let now = ap (λ b. cond b 0 k.process + signals x.pending) o.1 in
          omega (arith, c, d, was, now)

      go : (b : Bool) → node_left k (cond b (generate_for_process parent 17 told) told) + k.process ≤ node_left k a + 1
      go true = let c = (for_process-adds k told parent 17).less in let d = less in omega (arith, c, d)
      go false = let d = less in omega (arith, d)
