-- What the instructions, deliveries, the script, forks and the end of a process keep of the node.
use Rattle.file_model.specs.Files.{close_all}
use Rattle.hybrid_laws.proofs.node.Keeps.{Keeps, Keeps-same, ThreadKeeps, thread-same}
use Rattle.hybrid_laws.proofs.node.Primitives.{change-free, change-heap, change-quiet, dies-keeps, drop_ignored-keeps, either, for_process-keeps, put-new, row-gone, same-node, taken-keeps, then, with_action-keeps}
use Rattle.hybrid_model.specs.OneProcess.{set_break}
use Rattle.hybrid_model.specs.Run.{run_for}
use Rattle.isa_model.specs.Instr.{Outcome, instr}
use Rattle.isa_model.specs.Memory.{may_access}
use Rattle.isa_model.specs.declared.stops.Stop.TheVariants.{Break, Ecall, Illegal, Misaligned, On, Fault as StopFault}
use Rattle.isa_model.specs.declared.stops.Stop.{Stop}
use Rattle.kernel_model.specs.CloneCalls.{child_process, child_thread, with_child}
use Rattle.kernel_model.specs.Nodes.{Node, Process, ScriptLine, Sleeper, Thread, action_of, change_process, change_thread, dies, is_called, is_living, no_process, process_of, ready_to_run, set_pc, thread_of}
use Rattle.kernel_model.specs.Signals.{SA_RESETHAND, View, after_reset, deliver, deliver_signal, enter_handler, frame_address, frame_size, generate_for_process, handler_mask, handler_regs, interrupted_regs, next_signal, on_node, frame_bytes as signal_frame, store, taken, with_action}
use Rattle.kernel_model.specs.Traps.{Ran, counted, does_after, executed, life_ended, line_is, line_of, process_ended, script_sent, sent}
use Rattle.kernel_model.specs.declared.Action.{Action}
use Rattle.mck_word.specs.MapLaws.{at-collect, at-put}
use Rattle.mck_word.specs.Maps.{and_then, at, collect}
use Rattle.mck_word.specs.declared.Access.TheVariants.{Write}
use Rattle.mck_word.specs.declared.End.TheVariants.{Killed}
use Rattle.mck_word.specs.declared.Regs.{Regs}
use Rattle.std.proofs.Common.{ap, arith, refl, subst, sym, ◌∙◌}
use Rattle.std.proofs.lemmas.Bool.Decides.{nat_tests}
use Rattle.std.specs.Prelude.{Bool, None, Option, Some, cond, false, filter, not, suc, true, unwrap_or, zero, ℕ, ◌+◌, ◌==◌, ◌≡◌, ◌≢◌}

module _ (p : ℕ) (free : ℕ → Bool) where
  -- ---- instructions
  does_after-not : (stop : Stop) → is_called (does_after stop) ≡ false
  does_after-not On = refl
  does_after-not Ecall = refl
  does_after-not Break = refl
  does_after-not Illegal = refl
  does_after-not Misaligned = refl
  does_after-not (StopFault l) = refl

  pub counted-keeps : (node : Node) (t : ℕ) (o : Outcome) → free t ≡ true → Keeps p free node (counted t o node)
  counted-keeps node t o e =
      let a = change_thread t (λ (x : Thread). record x { regs = o.regs; does = does_after o.stop; back = false }) node in
      then p free (change-free p free node t (λ x. record x { regs = o.regs; does = does_after o.stop; back = false }) e
      (record { process = λ x f k. k; called = λ x f k. absurd (let n = sym (does_after-not o.stop) ∙ k in grind (arith, n)) }))
      (change-heap p free a (thread_of node t).process (λ x. record x { instructions = x.instructions + 1 }) (λ x. refl))

  pub run_for-keeps : (n t : ℕ) (v : Ran) → free t ≡ true → Keeps p free v.node (run_for n t v).node
  run_for-keeps zero t v e = same-node p free v.node
  run_for-keeps (suc n) t v e = then p free one (go (ready_to_run (thread_of w.node t).does) (run_for-keeps n t w e))
    where
      w : Ran
      w = executed t v

      one : Keeps p free v.node w.node
      one = counted-keeps v.node t (instr (thread_of v.node t).regs v.memory) e

      go : (b : Bool) → Keeps p free w.node (run_for n t w).node → Keeps p free w.node (cond b (run_for n t w) w).node
      go true k = k
      go false k = same-node p free w.node

  -- ---- traps
  pub past_ecall-keeps : (node : Node) (t : ℕ) → Keeps p free node (change_thread t (λ (x : Thread). record x { regs = set_pc (x.regs.pc + 4) x.regs }) node)
  past_ecall-keeps node t = change-quiet p free node t (λ x. record x { regs = set_pc (x.regs.pc + 4) x.regs }) (record { process = λ x. refl; place = λ x. refl; does = λ x. refl })

  -- a process begins: all but the new one
  pub with_child-keeps : (node : Node) (t child flags stack tls child_tid : ℕ) → p ≢ child → at node.threads child ≡ None → Keeps p free node (with_child t child flags stack tls child_tid node)
  with_child-keeps node t child flags stack tls child_tid other none = record {
    threads = put-new p free node.threads child (child_thread (thread_of node t) child flags stack tls child_tid) none refl;
    heap = ap (λ (o : Option Process). (unwrap_or o no_process).heap_base) (at-put node.processes child (child_process (thread_of node t).process (process_of node (thread_of node t).process)) p ∙ go (p == child) refl);
  }
    where
      go : (b : Bool) → (p == child) ≡ b → cond b (Some (child_process (thread_of node t).process (process_of node (thread_of node t).process))) (at node.processes p) ≡ at node.processes p
      go true e = absurd (other (grind (arith, nat_tests, e)))
      go false e = refl

  pub set_break-keeps : (node : Node) (q a : ℕ) → Keeps p free node (set_break q a node)
  set_break-keeps node q a = change-heap p free node q (λ x. record x { program_break = a }) (λ x. refl)

  -- ---- deliveries
  pub after_reset-keeps : (node : Node) (q signal : ℕ) (a : Action) → Keeps p free node (after_reset q signal a node)
  after_reset-keeps node q signal a = either p free (SA_RESETHAND a)
      (then p free (with_action-keeps p free node q signal (record a { handler = 0 })) (drop_ignored-keeps p free (with_action q signal (record a { handler = 0 }) node) q signal)) (same-node p free node)

  enter-keeps : (t signal : ℕ) (a : Action) (v : View) → Keeps p free v.node (enter_handler t signal a v).node
  enter-keeps t signal a v = go (may_access v.memory Write sp frame_size)
    where
      x : Thread
      x = thread_of v.node t

      r : Regs
      r = interrupted_regs x.back a x.regs

      sp : ℕ
      sp = frame_address r

      entered : Thread → Thread
      entered y = record y { regs = handler_regs a signal sp r; mask = handler_mask a signal y.mask; back = false }

      stays : Thread → Thread
      stays y = record y { regs = r; back = false }

      go : (b : Bool) → Keeps p free v.node (cond b (store sp (signal_frame r x.mask) (on_node (λ node. after_reset x.process signal a (change_thread t entered node)) v)) (on_node (λ node. change_process x.process (dies (Killed 11)) (change_thread t stays node)) v)).node
      go true = then p free (change-quiet p free v.node t entered (record { process = λ y. refl; place = λ y. refl; does = λ y. refl })) (after_reset-keeps (change_thread t entered v.node) x.process signal a)
      go false = then p free (change-quiet p free v.node t stays (record { process = λ y. refl; place = λ y. refl; does = λ y. refl })) (dies-keeps p free (change_thread t stays v.node) x.process (Killed 11))

  deliver_signal-keeps : (t signal : ℕ) (v : View) → Keeps p free v.node (deliver_signal t signal v).node
  deliver_signal-keeps t signal v = go (a.handler == 0)
    where
      q : ℕ
      q = (thread_of v.node t).process

      a : Action
      a = action_of (process_of v.node q) signal

      killed : Thread → Thread
      killed y = record y { regs = interrupted_regs y.back a y.regs; back = false }

      go : (b : Bool) → Keeps p free v.node (cond b (on_node (λ node. change_process q (dies (Killed signal)) (change_thread t killed node)) v) (enter_handler t signal a v)).node
      go true = then p free (change-quiet p free v.node t killed (record { process = λ y. refl; place = λ y. refl; does = λ y. refl })) (dies-keeps p free (change_thread t killed v.node) q (Killed signal))
      go false = enter-keeps t signal a v

  pub deliver-keeps : (t : ℕ) (v : View) → Keeps p free v.node (deliver t v).node
  deliver-keeps t v = go (next_signal v.node t)
    where
      go : (o : Option ℕ) → Keeps p free v.node (elim o as (λ _. View) [ None ↦ v | Some signal ↦ deliver_signal t signal (on_node (taken t signal) v) ]).node
      go None = same-node p free v.node
      go (Some signal) = then p free (taken-keeps p free v.node t signal) (deliver_signal-keeps t signal (on_node (taken t signal) v))

  -- ---- the script
  pub script-keeps : (k : ℕ) (node : Node) → Keeps p free node (script_sent k node)
  unfolding script_sent
  script-keeps k node = go (line_of node k)
    where
      go : (o : Option ScriptLine) → Keeps p free node (sent k node o)
      go None = same-node p free node
      go (Some l) =
          let a : Node = record node { unsent = filter (λ x. not (line_is k x)) node.unsent } in
          then p free (Keeps-same p free node a refl refl) (for_process-keeps p free a l.process l.signal)

  -- ---- the end of a process: its threads are free
  pub ended-keeps : (q : ℕ) (node : Node) → ((u : ℕ) (x : Thread) → at node.threads u ≡ Some x → x.process ≡ q → free u ≡ true) → Keeps p free node (process_ended q node)
  unfolding process_ended
  ended-keeps q node f =
      then p free less (then p free (change-heap p free a q (λ x. record x { life = life_ended x.life }) (λ x. refl)) (tells b))
    where
      a : Node
      a = record node {
        threads = collect (λ t (x : Thread). cond (x.process == q) None (Some x)) node.threads;
        sleepers = filter (λ (x : Sleeper). not (x.process == q)) node.sleepers;
        files = close_all q node.files;
      }

      b : Node
      b = change_process q (λ (x : Process). record x { life = life_ended x.life }) a

      parent : ℕ
      parent = (process_of node q).parent

      tells : (c : Node) → Keeps p free c (cond (is_living c parent) (generate_for_process parent 17 c) c)
      tells c = either p free (is_living c parent) (for_process-keeps p free c parent 17) (same-node p free c)

      row : (u : ℕ) (x : Thread) → (x.process ≡ q → free u ≡ true) → (d : Bool) → (x.process == q) ≡ d → ThreadKeeps p (free u) (Some x) (cond d None (Some x))
      row u x e true g = rw (e (grind (arith, nat_tests, g))) (row-gone p (Some x))
      row u x e false g = thread-same p (free u) (Some x) (Some x) refl

      go : (u : ℕ) (o : Option Thread) → at node.threads u ≡ o → ThreadKeeps p (free u) o (and_then o (λ (x : Thread). cond (x.process == q) None (Some x)))
      go u None e = thread-same p (free u) None None refl
      go u (Some x) e = row u x (f u x e) (x.process == q) refl

      less : Keeps p free node a
      less = record {
        threads = λ u. subst (ThreadKeeps p (free u) (at node.threads u)) (sym (at-collect (λ t (x : Thread). cond (x.process == q) None (Some x)) node.threads u)) (go u (at node.threads u) refl);
        heap = refl;
      }
