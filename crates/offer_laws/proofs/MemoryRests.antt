-- The thread of a local call waits for no change when it is over, and a delivery leaves it what it waits for.
use Rattle.file_model.specs.Errno.{EAGAIN, ECHILD, EFAULT, EINVAL, ENOSYS, ESRCH}
use Rattle.isa_model.specs.Memory.{may_access, read_bytes}
use Rattle.isa_model.specs.Registers.{reg}
use Rattle.kernel_model.specs.Calls.{one_of_calls}
use Rattle.kernel_model.specs.CloneCalls.{ended_child, noted_waited, parent_number, status_of_life, tells_end, wait4, wait_over, waits_for}
use Rattle.kernel_model.specs.LocalCalls.{answers, clear_word, code_of, exit_code, exits, exits_group, falls_asleep, futex, futex_wait, futex_wake, note_first_code, refuses, sets_clear_address, sets_robust_list, wake, wake_count, waiters}
use Rattle.kernel_model.specs.Nodes.{Node, Process, Thread, action_of, change_in, answered, change_process, change_thread, dies, process_of, sent_back, set_a0, set_does, set_pc, thread_of, without_thread}
use Rattle.kernel_model.specs.SignalCalls.{action_bytes, action_in, checked_signal, kill, kills, kills_thread, nat_of, new_mask, positive, send, sets_action, sets_mask, sigaction, sigpending, sigprocmask, tgkill}
use Rattle.kernel_model.specs.SignalSets.{has, with_signal, without_signal}
use Rattle.kernel_model.specs.Signals.{SA_RESETHAND, View, after_reset, deliver, deliver_signal, drop_ignored, enter_handler, frame_address, frame_bytes, frame_size, generate_for_process, generate_for_thread, handler_mask, handler_regs, ignores, interrupted_regs, mask_in, next_signal, on_node, raised, restored, return_from_handler, store, taken, with_action}
use Rattle.kernel_model.specs.Traps.{finishes, returns}
use Rattle.kernel_model.specs.declared.Action.{Action}
use Rattle.kernel_model.specs.declared.Does.TheVariants.{Asleep, InWait, Ready}
use Rattle.mck_word.specs.Words.{int_argument, little_endian, number_of, refused, word_of}
use Rattle.mck_word.specs.declared.Access.TheVariants.{Write}
use Rattle.mck_word.specs.declared.End.TheVariants.{Exit, Killed}
use Rattle.mck_word.specs.declared.Regs.{Regs}
use Rattle.offer_laws.proofs.MemoryStays.{dropped-wants, gone-own, quiet-wants, rests-own, wants}
use Rattle.std.proofs.Common.{refl, ◌∙◌}
use Rattle.std.specs.Prelude.{Bool, None, Option, Some, cond, false, length, min, pos, true, ℕ, ℤ, ◌%◌, ◌+◌, ◌-◌, ◌==◌, ◌^◌, ◌≡◌}
use Rattle.system_calls.specs.declared.LocalCall.TheVariants as Calls
use Rattle.system_calls.specs.declared.LocalCall.{LocalCall}

-- P of what a thread that waits for no change leaves, and of its end; processes may change beside
pub record Settles (t : ℕ) (P : Node → Type 0) : Type 0 where
  pub moves : (a : Node) (f : Thread → Thread) → ((x : Thread) → change_in (f x).does ≡ None) → P (change_thread t f a)
  pub gone : (a : Node) → P (without_thread t a)
  pub process : (a : Node) (q : ℕ) (f : Process → Process) → P a → P (change_process q f a)
  pub sends : (a : Node) (signal : ℕ) → P a → P (generate_for_thread t signal a)

module _ (t : ℕ) (P : Node → Type 0) (k : Settles t P) where
  either : (b : Bool) (x y : Node) → P x → P y → P (cond b x y)
  either true x y f g = f
  either false x y f g = g

  either-view : (b : Bool) (v w : View) → P v.node → P w.node → P (cond b v w).node
  either-view true v w f g = f
  either-view false v w f g = g

  answered-own : (a : Node) (z : ℤ) → P (answered t z a)
  answered-own a z = k.moves a (λ x. record x { regs = set_a0 (word_of z) x.regs; does = Ready }) (λ x. refl)

  sent_back-own : (a : Node) → P (sent_back t a)
  sent_back-own a = k.moves a (λ x. record x { regs = set_pc (x.regs.pc + (2 ^ 64 - 4)) x.regs; back = true; does = Ready }) (λ x. refl)

  raised-own : (a : Node) (signal : ℕ) → P (raised t signal a)
  raised-own a signal = either _ _ _ (k.process (set_does t Ready a) (thread_of a t).process (dies (Killed signal)) (k.moves a (λ x. record x { does = Ready }) (λ x. refl)))
      (k.moves a (λ x. record x { pending = with_signal signal x.pending; does = Ready }) (λ x. refl))

  returns-own : (a : Node) (z : ℤ) → P (returns t z a)
  unfolding returns
  returns-own a z = either _ _ _ (either _ _ _ (sent_back-own a) (either _ _ _ (k.sends (answered t z a) 13 (answered-own a z)) (answered-own a z))) (k.gone a)

  finishes-own : (a : Node) (z : ℤ) → P (finishes t z a)
  unfolding finishes
  finishes-own a z = either _ _ _ (answered-own a z) (k.gone a)

  answers-own : (z : ℤ) (v : View) → P (answers t z v).node
  answers-own z v = answered-own v.node z

  -- ---- local calls
  exits-own : (code : ℕ) (v : View) → P (exits t code v).node
  exits-own code v =
      let x = thread_of v.node t in
      let a = without_thread t (note_first_code t x code (clear_word x v).node) in
      either _ _ _ (k.process a x.process (λ (y : Process). dies (Exit (code_of y)) y) (k.gone (note_first_code t x code (clear_word x v).node))) (k.gone (note_first_code t x code (clear_word x v).node))

  exits_group-own : (code : ℕ) (v : View) → P (exits_group t code v).node
  exits_group-own code v = k.process (set_does t Ready v.node) (thread_of v.node t).process (dies (Exit code)) (k.moves v.node (λ x. record x { does = Ready }) (λ x. refl))

  clear_address-own : (a : ℕ) (v : View) → P (sets_clear_address t a v).node
  clear_address-own a v = answered-own (change_thread t (λ (x : Thread). record x { clear_address = a }) v.node) (pos t)

  robust_list-own : (len : ℕ) (v : View) → P (sets_robust_list t len v).node
  robust_list-own len v = either-view _ _ _ (answers-own (pos 0) v) (answers-own (refused EINVAL) v)

  futex_wait-own : (address val timeout : ℕ) (v : View) → P (futex_wait t address val timeout v).node
  futex_wait-own address val timeout v =
      either-view _ _ _ (answers-own (refused EINVAL) v) (either-view _ _ _ (answers-own (refused ENOSYS) v) (either-view _ _ _ (answers-own (refused EFAULT) v) (either-view _ _ _ (answers-own (refused EAGAIN) v)
      (k.moves (record v.node { sleepers = (falls_asleep t address v.node).sleepers }) (λ x. record x { does = Asleep address }) (λ x. refl)))))

  futex_wake-own : (address : ℕ) (val : ℤ) (v : View) → P (futex_wake t address val v).node
  futex_wake-own address val v =
      let q = (thread_of v.node t).process in
      either-view _ _ _ (answers-own (refused EINVAL) v) (answered-own (wake q address (wake_count val) v.node) (pos (min (wake_count val) (length (waiters v.node q address)))))

  futex-own : (address op val timeout : ℕ) (v : View) → P (futex t address op val timeout v).node
  futex-own address op val timeout v = either-view _ _ _ (futex_wait-own address val timeout v) (either-view _ _ _ (futex_wake-own address (int_argument val) v) (answers-own (refused ENOSYS) v))

  kills-own : (q signal : ℕ) (v : View) → P (kills t q signal v).node
  kills-own q signal v = either-view _ _ _ (answers-own (refused ESRCH) v) (answered-own (send signal (generate_for_process q) v.node) (pos 0))

  kill-own : (pid signal : ℤ) (v : View) → P (kill t pid signal v).node
  kill-own pid signal v = first (positive pid) (checked_signal signal)
    where
      first : (o s : Option ℕ) → P (elim o as (λ _. View) [ None ↦ refuses t EINVAL v | Some q ↦ elim s as (λ _. View) [ None ↦ refuses t EINVAL v | Some n ↦ kills t q n v ] ]).node
      first None s = answers-own (refused EINVAL) v
      first (Some q) None = answers-own (refused EINVAL) v
      first (Some q) (Some n) = kills-own q n v

  kills_thread-own : (q tid signal : ℕ) (v : View) → P (kills_thread t q tid signal v).node
  kills_thread-own q tid signal v = either-view _ _ _ (answers-own (refused ESRCH) v) (answered-own (send signal (generate_for_thread tid) v.node) (pos 0))

  tgkill-own : (pid tid signal : ℤ) (v : View) → P (tgkill t pid tid signal v).node
  tgkill-own pid tid signal v = first (positive pid) (positive tid) (checked_signal signal)
    where
      first : (o d s : Option ℕ) → P (elim o as (λ _. View) [ None ↦ refuses t EINVAL v | Some q ↦ elim d as (λ _. View) [ None ↦ refuses t EINVAL v | Some x ↦ elim s as (λ _. View) [ None ↦ refuses t EINVAL v | Some n ↦ kills_thread t q x n v ] ] ]).node
      first None d s = answers-own (refused EINVAL) v
      first (Some q) None s = answers-own (refused EINVAL) v
      first (Some q) (Some x) None = answers-own (refused EINVAL) v
      first (Some q) (Some x) (Some n) = kills_thread-own q x n v

  sets_action-own : (signal act old : ℕ) (v : View) → P (sets_action t signal act old v).node
  sets_action-own signal act old v =
      let q = (thread_of v.node t).process in
      let stored = cond (old == 0) v (store old (action_bytes (action_of (process_of v.node q) signal)) v) in
      answers-own (pos 0) (cond (act == 0) stored (on_node (λ node. drop_ignored q signal (with_action q signal (action_in (read_bytes v.memory act 24)) node)) stored))

  sigaction-own : (signal : ℤ) (act old size : ℕ) (v : View) → P (sigaction t signal act old size v).node
  sigaction-own signal act old size v = either-view _ _ _ (answers-own (refused EINVAL) v) (either-view _ _ _ (answers-own (refused EFAULT) v) (sets_action-own (nat_of signal) act old v))

  sets_mask-own : (how : ℤ) (address old : ℕ) (v : View) → P (sets_mask t how address old v).node
  sets_mask-own how address old v =
      let stored = cond (old == 0) v (store old (little_endian 8 (thread_of v.node t).mask) v) in
      answers-own (pos 0) (cond (address == 0) stored (on_node (change_thread t (λ (y : Thread). record y { mask = new_mask how (number_of (read_bytes v.memory address 8)) y.mask })) stored))

  sigprocmask-own : (how : ℤ) (address old size : ℕ) (v : View) → P (sigprocmask t how address old size v).node
  sigprocmask-own how address old size v = either-view _ _ _ (answers-own (refused EINVAL) v) (either-view _ _ _ (answers-own (refused EFAULT) v) (sets_mask-own how address old v))

  sigpending-own : (address size : ℕ) (v : View) → P (sigpending t address size v).node
  sigpending-own address size v = either-view _ _ _ (answers-own (refused EINVAL) v) (either-view _ _ _ (answers-own (refused EFAULT) v) (answers-own (pos 0) v))

  return-own : (v : View) → P (return_from_handler t v).node
  return-own v =
      let bytes = read_bytes v.memory (reg (thread_of v.node t).regs 2) frame_size in
      either-view _ _ _ (k.moves v.node (λ y. record y { regs = restored bytes; mask = mask_in bytes; does = Ready }) (λ y. refl)) (raised-own v.node 11)

  tells-own : (child status : ℕ) (v : View) → P (tells_end t child status v).node
  tells-own child status v = go (status == 0) (may_access v.memory Write status 4)
    where
      told : View
      told = answers t (pos child) (noted_waited child v)

      go : (b d : Bool) → P (cond b told (cond d (store status (little_endian 4 (status_of_life (process_of v.node child).life)) told) (refuses t EFAULT (noted_waited child v)))).node
      go true d = answered-own (noted_waited child v).node (pos child)
      go false true = answered-own (noted_waited child v).node (pos child)
      go false false = answered-own (noted_waited child v).node (refused EFAULT)

  wait_over-own : (pid : ℤ) (status : ℕ) (v : View) → P (wait_over t pid status v).node
  wait_over-own pid status v = go (ended_child v.node (thread_of v.node t).process pid)
    where
      go : (o : Option ℕ) → P (waits_for t pid status v o).node
      go None = answers-own (refused ECHILD) v
      go (Some child) = tells-own child status v

  wait4-own : (pid : ℤ) (status options rusage : ℕ) (v : View) → P (wait4 t pid status options rusage v).node
  wait4-own pid status options rusage v = either-view _ _ _ (answers-own (refused EINVAL) v) (either-view _ _ _ (answers-own (refused ENOSYS) v) (either-view _ _ _ (wait_over-own pid status v)
      (either-view _ _ _ (answers-own (pos 0) v) (k.moves v.node (λ x. record x { does = InWait pid status }) (λ x. refl)))))

  calls-own : (call : LocalCall) (a : ℕ → ℕ) (v : View) → P (one_of_calls t call a v).node
  calls-own Calls.Exit a v = exits-own (exit_code (a 0)) v
  calls-own Calls.ExitGroup a v = exits_group-own (exit_code (a 0)) v
  calls-own Calls.SetTidAddress a v = clear_address-own (a 0) v
  calls-own Calls.Futex a v = futex-own (a 0) (a 1) (a 2) (a 3) v
  calls-own Calls.SetRobustList a v = robust_list-own (a 1) v
  calls-own Calls.SchedYield a v = answers-own (pos 0) v
  calls-own Calls.Kill a v = kill-own (int_argument (a 0)) (int_argument (a 1)) v
  calls-own Calls.Tgkill a v = tgkill-own (int_argument (a 0)) (int_argument (a 1)) (int_argument (a 2)) v
  calls-own Calls.RtSigaction a v = sigaction-own (int_argument (a 0)) (a 1) (a 2) (a 3) v
  calls-own Calls.RtSigprocmask a v = sigprocmask-own (int_argument (a 0)) (a 1) (a 2) (a 3) v
  calls-own Calls.RtSigpending a v = sigpending-own (a 0) (a 1) v
  calls-own Calls.RtSigreturn a v = return-own v
  calls-own Calls.Getpid a v = answers-own (pos (thread_of v.node t).process) v
  calls-own Calls.Getppid a v = answers-own (pos (parent_number v.node (thread_of v.node t).process)) v
  calls-own Calls.Gettid a v = answers-own (pos t) v
  calls-own Calls.Wait4 a v = wait4-own (int_argument (a 0)) (a 1) (a 2 % 2 ^ 32) (a 3) v

module _ (t : ℕ) where
  -- the thread waits for no change
  abbrev pub Rests : Node → Type 0
  Rests a = wants t a ≡ None

  rests : Settles t Rests
  rests = record {
    moves = λ a f h. rests-own a t f h;
    gone = λ a. gone-own a t;
    process = λ a q f h. h;
    sends = λ a signal h. sends a signal h (ignores (process_of a (thread_of a t).process) signal);
  }
    where
      sends : (a : Node) (signal : ℕ) → Rests a → (b : Bool) → Rests (cond b a (change_thread t (λ (x : Thread). record x { pending = with_signal signal x.pending }) a))
      sends a signal h true = h
      sends a signal h false = quiet-wants a t (λ x. record x { pending = with_signal signal x.pending }) (record { process = λ x. refl; place = λ x. refl; does = λ x. refl }) t ∙ h

  pub answered-rests : (a : Node) (z : ℤ) → Rests (answered t z a)
  answered-rests a z = answered-own t Rests rests a z

  pub sent_back-rests : (a : Node) → Rests (sent_back t a)
  sent_back-rests a = sent_back-own t Rests rests a

  pub raised-rests : (a : Node) (signal : ℕ) → Rests (raised t signal a)
  raised-rests a signal = raised-own t Rests rests a signal

  pub returns-rests : (a : Node) (z : ℤ) → Rests (returns t z a)
  returns-rests a z = returns-own t Rests rests a z

  pub finishes-rests : (a : Node) (z : ℤ) → Rests (finishes t z a)
  finishes-rests a z = finishes-own t Rests rests a z

  pub wait_over-rests : (pid : ℤ) (status : ℕ) (v : View) → Rests (wait_over t pid status v).node
  wait_over-rests pid status v = wait_over-own t Rests rests pid status v

  pub calls-rest : (call : LocalCall) (a : ℕ → ℕ) (v : View) → Rests (one_of_calls t call a v).node
  calls-rest call a v = calls-own t Rests rests call a v

  -- ---- deliveries
  abbrev pub Same : Node → Node → Type 0
  Same a b = wants t b ≡ wants t a

  quiet : (a : Node) (f : Thread → Thread) → ((x : Thread) → (f x).process ≡ x.process) → ((x : Thread) → (f x).place ≡ x.place) → ((x : Thread) → (f x).does ≡ x.does) → Same a (change_thread t f a)
  quiet a f p l d = quiet-wants a t f (record { process = p; place = l; does = d }) t

  taken-same : (a : Node) (signal : ℕ) → Same a (taken t signal a)
  taken-same a signal = go (has signal (thread_of a t).pending)
    where
      go : (b : Bool) → Same a (cond b (change_thread t (λ (y : Thread). record y { pending = without_signal signal y.pending }) a) (change_process (thread_of a t).process (λ (x : Process). record x { pending = without_signal signal x.pending }) a))
      go true = quiet a (λ (y : Thread). record y { pending = without_signal signal y.pending }) (λ x. refl) (λ x. refl) (λ x. refl)
      go false = refl

  reset-same : (a : Node) (q signal : ℕ) (z : Action) → Same a (after_reset q signal z a)
  reset-same a q signal z = go (SA_RESETHAND z)
    where
      go : (b : Bool) → Same a (cond b (drop_ignored q signal (with_action q signal (record z { handler = 0 }) a)) a)
      go true = dropped-wants (with_action q signal (record z { handler = 0 }) a) q signal t
      go false = refl

  enter-same : (signal : ℕ) (a : Action) (v : View) → Same v.node (enter_handler t signal a v).node
  enter-same signal a v = go (may_access v.memory Write sp frame_size)
    where
      x : Thread
      x = thread_of v.node t

      r : Regs
      r = interrupted_regs x.back a x.regs

      sp : ℕ
      sp = frame_address r

      entered : Thread → Thread
      entered y = record y { regs = handler_regs a signal sp r; mask = handler_mask a signal y.mask; back = false }

      stays : Thread → Thread
      stays y = record y { regs = r; back = false }

      go : (b : Bool) → Same v.node (cond b (store sp (frame_bytes r x.mask) (on_node (λ node. after_reset x.process signal a (change_thread t entered node)) v)) (on_node (λ node. change_process x.process (dies (Killed 11)) (change_thread t stays node)) v)).node
      go true = reset-same (change_thread t entered v.node) x.process signal a ∙ quiet v.node entered (λ y. refl) (λ y. refl) (λ y. refl)
      go false = quiet v.node stays (λ y. refl) (λ y. refl) (λ y. refl)

  deliver_signal-same : (signal : ℕ) (v : View) → Same v.node (deliver_signal t signal v).node
  deliver_signal-same signal v = go (a.handler == 0)
    where
      q : ℕ
      q = (thread_of v.node t).process

      a : Action
      a = action_of (process_of v.node q) signal

      killed : Thread → Thread
      killed y = record y { regs = interrupted_regs y.back a y.regs; back = false }

      go : (b : Bool) → Same v.node (cond b (on_node (λ node. change_process q (dies (Killed signal)) (change_thread t killed node)) v) (enter_handler t signal a v)).node
      go true = quiet v.node killed (λ y. refl) (λ y. refl) (λ y. refl)
      go false = enter-same signal a v

  pub deliver-same : (v : View) → Same v.node (deliver t v).node
  deliver-same v = go (next_signal v.node t)
    where
      go : (o : Option ℕ) → Same v.node (elim o as (λ _. View) [ None ↦ v | Some signal ↦ deliver_signal t signal (on_node (taken t signal) v) ]).node
      go None = refl
      go (Some signal) = deliver_signal-same signal (on_node (taken t signal) v) ∙ taken-same v.node signal
