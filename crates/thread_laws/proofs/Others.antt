-- Each event but Trap, Intake and Reap leaves the same threads in the same processes.
use Rattle.hybrid_model.specs.declared.events.Event.TheVariants as Events
use Rattle.file_model.specs.Errno.{ECHILD, EFAULT}
use Rattle.hybrid_model.specs.AckClear.{ack_clear}
use Rattle.hybrid_model.specs.Act.{act_file}
use Rattle.hybrid_model.specs.Copy.{copy}
use Rattle.hybrid_model.specs.Events.{after_here}
use Rattle.hybrid_model.specs.Fetch.{fetch_from}
use Rattle.hybrid_model.specs.Finish.{finish_here}
use Rattle.hybrid_model.specs.Miss.{miss}
use Rattle.hybrid_model.specs.Park.{park_here}
use Rattle.hybrid_model.specs.Unpark.{unpark_here}
use Rattle.hybrid_model.specs.Answer.{post_answer}
use Rattle.hybrid_model.specs.BeginVm.{begin_round, begin_vm_of}
use Rattle.hybrid_model.specs.Deliver.{after_deliver}
use Rattle.hybrid_model.specs.Interrupt.{interrupt_as, is_calling, post_interrupt}
use Rattle.hybrid_model.specs.OneProcess.{memory_here, view_here}
use Rattle.hybrid_model.specs.Run.{run, run_for}
use Rattle.hybrid_model.specs.Pairs.{Here}
use Rattle.hybrid_model.specs.Rings.{ring}
use Rattle.hybrid_model.specs.declared.events.Event.{Event}
use Rattle.ikc_ring.specs.declared.Msg.{Msg}
use Rattle.isa_model.specs.Instr.{Outcome, instr}
use Rattle.isa_model.specs.Memory.{may_access}
use Rattle.kernel_model.specs.CloneCalls.{ended_child, noted_waited, status_of_life, wait_over, waits_for}
use Rattle.kernel_model.specs.LocalCalls.{answers, refuses}
use Rattle.kernel_model.specs.Nodes.{Node, Process, ScriptLine, Thread, action_of, answered, change_in, change_process, change_thread, dies, process_of, ready_to_run, sent_back, set_a0, set_pc, thread_of, without_sleeper}
use Rattle.kernel_model.specs.SignalSets.{has, with_signal, without_signal}
use Rattle.kernel_model.specs.Signals.{SA_RESETHAND, View, after_reset, deliver, deliver_signal, drop_ignored, enter_handler, frame_address, frame_bytes, frame_size, handler_mask, handler_regs, interrupted_regs, moved_to_own, next_signal, on_node, store, taken, with_action}
use Rattle.kernel_model.specs.Traps.{Ran, called_back, does_after, executed, line_is, line_of, script_sent, sent, wait_of, waited, waited_for}
use Rattle.kernel_model.specs.declared.Action.{Action}
use Rattle.kernel_model.specs.declared.Change.{Change}
use Rattle.kernel_model.specs.declared.Does.TheVariants.{Ready}
use Rattle.mck_word.specs.Words.{little_endian, refused, word_of}
use Rattle.mck_word.specs.declared.Access.TheVariants.{Write}
use Rattle.mck_word.specs.declared.End.TheVariants.{Killed}
use Rattle.mck_word.specs.declared.Regs.{Regs}
use Rattle.std.proofs.Common.{arith, refl, ◌∙◌}
use Rattle.std.specs.Prelude.{Bool, List, None, Option, Some, [], cond, false, filter, not, pos, suc, true, zero, ℕ, ℤ, ◌+◌, ◌-◌, ◌==◌, ◌^◌, ◌∷◌, ◌≡◌}
use Rattle.thread_laws.proofs.Stays.{changed-same, dropped-same, either-same, for_process-same}
use Rattle.thread_laws.specs.Members.{SameThreads, keeps_threads, process_at}

pub answered-same : (a : Node) (t : ℕ) (z : ℤ) → SameThreads a (answered t z a)
answered-same a t z = changed-same a t (λ x. record x { regs = set_a0 (word_of z) x.regs; does = Ready }) (λ x. refl)

pub sent_back-same : (a : Node) (t : ℕ) → SameThreads a (sent_back t a)
sent_back-same a t = changed-same a t (λ x. record x { regs = set_pc (x.regs.pc + (2 ^ 64 - 4)) x.regs; back = true; does = Ready }) (λ x. refl)

-- ---- instructions
executed-same : (t : ℕ) (v : Ran) → SameThreads v.node (executed t v).node
executed-same t v =
    let e : Outcome = instr (thread_of v.node t).regs v.memory in
    changed-same v.node t (λ (x : Thread). record x { regs = e.regs; does = does_after e.stop; back = false }) (λ x. refl)

run-same : (n t : ℕ) (v : Ran) → SameThreads v.node (run_for n t v).node
run-same zero t v u = refl
run-same (suc n) t v u = go (ready_to_run (thread_of w.node t).does) (run-same n t w u)
  where
    w : Ran
    w = executed t v

    go : (b : Bool) → process_at (run_for n t w).node u ≡ process_at w.node u → process_at (cond b (run_for n t w) w).node u ≡ process_at v.node u
    go true k = k ∙ executed-same t v u
    go false k = executed-same t v u

-- ---- signals that are taken and delivered
taken-same : (a : Node) (t signal : ℕ) → SameThreads a (taken t signal a)
taken-same a t signal = either-same a (change_thread t (λ (y : Thread). record y { pending = without_signal signal y.pending }) a) (change_process (thread_of a t).process (λ (x : Process). record x { pending = without_signal signal x.pending }) a) (has signal (thread_of a t).pending)
    (changed-same a t (λ (y : Thread). record y { pending = without_signal signal y.pending }) (λ x. refl)) (λ u. refl)

moved-same : (a : Node) (t : ℕ) → SameThreads a (moved_to_own t a)
moved-same a t u = go (next_signal a t)
  where
    go : (o : Option ℕ) → process_at (elim o as (λ _. Node) [ None ↦ a | Some signal ↦ change_thread t (λ (y : Thread). record y { pending = with_signal signal y.pending }) (taken t signal a) ]) u ≡ process_at a u
    go None = refl
    go (Some signal) = changed-same (taken t signal a) t (λ (y : Thread). record y { pending = with_signal signal y.pending }) (λ x. refl) u ∙ taken-same a t signal u

reset-same : (a : Node) (q signal : ℕ) (x : Action) → SameThreads a (after_reset q signal x a)
reset-same a q signal x = either-same a (drop_ignored q signal (with_action q signal (record x { handler = 0 }) a)) a (SA_RESETHAND x) (dropped-same (with_action q signal (record x { handler = 0 }) a) q signal) (λ u. refl)

entered-same : (t signal : ℕ) (a : Action) (v : View) → SameThreads v.node (enter_handler t signal a v).node
entered-same t signal a v u = go (may_access v.memory Write sp frame_size)
  where
    x : Thread
    x = thread_of v.node t

    r : Regs
    r = interrupted_regs x.back a x.regs

    sp : ℕ
    sp = frame_address r

    entered : Thread → Thread
    entered y = record y { regs = handler_regs a signal sp r; mask = handler_mask a signal y.mask; back = false }

    stays : Thread → Thread
    stays y = record y { regs = r; back = false }

    go : (b : Bool) → process_at (cond b (store sp (frame_bytes r x.mask) (on_node (λ node. after_reset x.process signal a (change_thread t entered node)) v)) (on_node (λ node. change_process x.process (dies (Killed 11)) (change_thread t stays node)) v)).node u ≡ process_at v.node u
    go true = reset-same (change_thread t entered v.node) x.process signal a u ∙ changed-same v.node t entered (λ y. refl) u
    go false = changed-same v.node t stays (λ y. refl) u

delivered-same : (t : ℕ) (v : View) → SameThreads v.node (deliver t v).node
delivered-same t v u = go (next_signal v.node t)
  where
    one : (signal : ℕ) (w : View) → process_at (deliver_signal t signal w).node u ≡ process_at w.node u
    one signal w = by (a.handler == 0)
      where
        q : ℕ
        q = (thread_of w.node t).process

        a : Action
        a = action_of (process_of w.node q) signal

        killed : Thread → Thread
        killed y = record y { regs = interrupted_regs y.back a y.regs; back = false }

        by : (b : Bool) → process_at (cond b (on_node (λ node. change_process q (dies (Killed signal)) (change_thread t killed node)) w) (enter_handler t signal a w)).node u ≡ process_at w.node u
        by true = changed-same w.node t killed (λ y. refl) u
        by false = entered-same t signal a w u

    go : (o : Option ℕ) → process_at (elim o as (λ _. View) [ None ↦ v | Some signal ↦ deliver_signal t signal (on_node (taken t signal) v) ]).node u ≡ process_at v.node u
    go None = refl
    go (Some signal) = one signal (on_node (taken t signal) v) ∙ taken-same v.node t signal u

-- ---- the wait for a child
waited-same : (t : ℕ) (pid : ℤ) (status : ℕ) (v : View) → SameThreads v.node (wait_over t pid status v).node
waited-same t pid status v u = go (ended_child v.node (thread_of v.node t).process pid)
  where
    told : (child : ℕ) (z : ℤ) → process_at (answered t z (noted_waited child v).node) u ≡ process_at v.node u
    told child z = answered-same (noted_waited child v).node t z u

    by : (child : ℕ) (b d : Bool) → process_at (cond b (answers t (pos child) (noted_waited child v)) (cond d (store status (little_endian 4 (status_of_life (process_of v.node child).life)) (answers t (pos child) (noted_waited child v))) (refuses t EFAULT (noted_waited child v)))).node u ≡ process_at v.node u
    by child true d = told child (pos child)
    by child false true = told child (pos child)
    by child false false = told child (refused EFAULT)

    go : (o : Option ℕ) → process_at (waits_for t pid status v o).node u ≡ process_at v.node u
    go None = answered-same v.node t (refused ECHILD) u
    go (Some child) = by child (status == 0) (may_access v.memory Write status 4)

-- ---- every one of these events
pub others-same : (e : Event) → keeps_threads e ≡ true → (p : ℕ) (h : Here) → SameThreads h.node (after_here e p h).node
unfolding run after_deliver begin_round post_answer post_interrupt miss copy act_file park_here unpark_here finish_here ack_clear waited called_back script_sent
others-same (Events.Run core t n) k p h u = run-same n t.0 (record { node = h.node; memory = memory_here h }) u
others-same (Events.Trap t) k p h u = absurd (grind (arith, k))
others-same (Events.Deliver t) k p h u = delivered-same t.0 (view_here h) u
others-same (Events.Intake q) k p h u = absurd (grind (arith, k))
others-same (Events.Answer q w) k p h u = refl
others-same (Events.BeginVm t) k p h u = go (change_in (thread_of h.node t.0).does)
  where
    go : (o : Option Change) → process_at (begin_vm_of p t.0 o h).node u ≡ process_at h.node u
    go None = refl
    go (Some c) = refl
others-same (Events.Interrupt t) k p h u = go (is_calling h.side t.0)
  where
    go : (b : Bool) → process_at (interrupt_as b t.0 h).node u ≡ process_at h.node u
    go true = moved-same h.node t.0 u
    go false = sent_back-same (without_sleeper t.0 h.node) t.0 u
others-same (Events.Wait t) k p h u = go (wait_of (thread_of h.node t.0).does)
  where
    go : (o : Option (ℤ × ℕ)) → process_at (waited_for t.0 (view_here h) o).node u ≡ process_at h.node u
    go None = refl
    go (Some w) = waited-same t.0 w.0 w.1 (view_here h) u
others-same (Events.Reap q) k p h u = absurd (grind (arith, k))
others-same (Events.Script i) k p h u = go (line_of h.node i)
  where
    go : (o : Option ScriptLine) → process_at (sent i h.node o) u ≡ process_at h.node u
    go None = refl
    go (Some l) = for_process-same (record h.node { unsent = filter (λ x. not (line_is i x)) h.node.unsent }) l.process l.signal u
others-same (Events.Fetch q r) k p h u = go (ring r h.side.to_linux)
  where
    go : (ms : List Msg) → process_at (fetch_from r ms h).node u ≡ process_at h.node u
    go [] = refl
    go (m ∷ ms) = refl
others-same (Events.Assign q w) k p h u = refl
others-same (Events.Miss q w) k p h u = refl
others-same (Events.Pin q w) k p h u = refl
others-same (Events.Copy q w) k p h u = refl
others-same (Events.Unpin q w) k p h u = refl
others-same (Events.Act q w) k p h u = refl
others-same (Events.Park q w) k p h u = refl
others-same (Events.Unpark q n) k p h u = refl
others-same (Events.Finish q w) k p h u = refl
others-same (Events.AckClear q) k p h u = refl
