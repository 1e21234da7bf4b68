-- Each local call adds one signal or one rest at most to what is left to do for threads and processes.
use Rattle.file_model.specs.Errno.{EAGAIN, ECHILD, EFAULT, EINVAL, ENOSYS, ESRCH}
use Rattle.hybrid_laws.proofs.maps.Sums.{total-put}
use Rattle.isa_model.specs.Memory.{may_access, read_bytes}
use Rattle.isa_model.specs.Registers.{reg}
use Rattle.kernel_model.specs.Calls.{one_of_calls}
use Rattle.kernel_model.specs.CloneCalls.{clone, cloned_thread, clones, ended_child, noted_waited, parent_number, status_of_life, tells_end, wait4, wait_over, waits_for, with_thread}
use Rattle.kernel_model.specs.LocalCalls.{answers, clear_word, code_of, dies_without_threads, exit_code, exits, exits_group, futex, futex_wait, futex_wake, note_first_code, refuses, sets_clear_address, sets_robust_list, waiters, wake, wake_count}
use Rattle.kernel_model.specs.Nodes.{Node, Process, Thread, action_of, answered, change_process, change_thread, dies, process_of, set_does, thread_of, threads_of, without_thread}
use Rattle.kernel_model.specs.SignalCalls.{action_bytes, action_in, checked_signal, kill, kills, kills_thread, nat_of, new_mask, positive, send, sets_action, sets_mask, sigaction, sigpending, sigprocmask, tgkill}
use Rattle.kernel_model.specs.Signals.{View, drop_ignored, frame_size, generate_for_process, generate_for_thread, mask_in, on_node, restored, return_from_handler, store, with_action}
use Rattle.kernel_model.specs.declared.Action.{Action}
use Rattle.kernel_model.specs.declared.Does.TheVariants.{InWait, Ready}
use Rattle.mck_word.specs.Words.{has_bit, int_argument, little_endian, number_of, refused}
use Rattle.mck_word.specs.declared.Access.TheVariants.{Write}
use Rattle.mck_word.specs.declared.End.TheVariants.{Exit}
use Rattle.std.proofs.Common.{arith, refl, ◌∙◌}
use Rattle.std.specs.Prelude.{Bool, None, Option, Some, cond, false, length, min, pos, slice_set, true, ℕ, ℤ, ◌%◌, ◌-◌, ◌==◌, ◌^◌, ◌≡◌}
use Rattle.system_calls.specs.declared.LocalCall.TheVariants as Calls
use Rattle.system_calls.specs.declared.LocalCall.{LocalCall}
use Rattle.work_laws.proofs.node.Left.{Adds, adds-more, adds-none, adds-then, answered-adds, dies-adds, does-adds, falls-adds, for_process-adds, for_thread-adds, gone-adds, ignored-adds, process-adds, raised-adds, thread-adds, wake-adds}
use Rattle.work_laws.proofs.node.Signals.{no-signals}
use Rattle.work_laws.specs.KernelLeft.{Prices, of_thread}

module _ (k : Prices) (t : ℕ) where
  abbrev One : Node → Node → Type 0
  One a b = Adds k 1 a b

  abbrev None_more : Node → Node → Type 0
  None_more a b = Adds k 0 a b

  lift : (a b : Node) → None_more a b → One a b
  lift a b f = adds-more k a b 0 1 (omega arith) f

  -- nothing more, then one more at most; and the other way round
  first : (a b c : Node) → None_more a b → One b c → One a c
  first a b c f g = adds-then k a b c 0 1 f g

  last : (a b c : Node) → One a b → None_more b c → One a c
  last a b c f g = adds-then k a b c 1 0 f g

  none-then : (a b c : Node) → None_more a b → None_more b c → None_more a c
  none-then a b c f g = adds-then k a b c 0 0 f g

  either : (a : Node) (b : Bool) (v w : View) → One a v.node → One a w.node → One a (cond b v w).node
  either a true v w f g = f
  either a false v w f g = g

  answers-adds : (answer : ℤ) (v : View) → One v.node (answers t answer v).node
  answers-adds answer v = lift v.node (answered t answer v.node) (answered-adds k v.node t answer)

  -- ---- exit and exit_group
  clear-adds : (x : Thread) (v : View) → None_more v.node (clear_word x v).node
  clear-adds x v = go (x.clear_address == 0) (may_access v.memory Write x.clear_address (length (little_endian 4 0)))
    where
      go : (b d : Bool) → None_more v.node (cond b v (on_node (wake x.process x.clear_address 1) (cond d (store x.clear_address (little_endian 4 0) v) v))).node
      go true d = adds-none k v.node
      go false true = wake-adds k v.node x.process x.clear_address 1
      go false false = wake-adds k v.node x.process x.clear_address 1

  note-adds : (node : Node) (x : Thread) (code : ℕ) → None_more node (note_first_code t x code node)
  note-adds node x code = go (t == x.process)
    where
      go : (b : Bool) → None_more node (cond b (change_process x.process (λ (p : Process). record p { first_code = Some code }) node) node)
      go true = process-adds k node x.process (λ p. record p { first_code = Some code }) 0 (λ p. omega arith)
      go false = adds-none k node

  dies_without-adds : (node : Node) (q : ℕ) → None_more node (dies_without_threads q node)
  dies_without-adds node q = go (length (threads_of node q) == 0)
    where
      go : (b : Bool) → None_more node (cond b (change_process q (λ (x : Process). dies (Exit (code_of x)) x) node) node)
      go true = dies-adds k node q (λ x. Exit (code_of x))
      go false = adds-none k node

  exits-adds : (code : ℕ) (v : View) → One v.node (exits t code v).node
  exits-adds code v =
      let x = thread_of v.node t in
      let a = (clear_word x v).node in
      let b = note_first_code t x code a in
      let c = without_thread t b in
      lift v.node (dies_without_threads x.process c) (none-then v.node a _ (clear-adds x v) (none-then a b _ (note-adds a x code) (none-then b c _ (gone-adds k b t) (dies_without-adds c x.process))))

  exits_group-adds : (code : ℕ) (v : View) → One v.node (exits_group t code v).node
  exits_group-adds code v = lift v.node _ (none-then v.node (set_does t Ready v.node) _ (does-adds k v.node t Ready) (dies-adds k (set_does t Ready v.node) (thread_of v.node t).process (λ x. Exit code)))

  sets_clear_address-adds : (a : ℕ) (v : View) → One v.node (sets_clear_address t a v).node
  sets_clear_address-adds a v =
      let b = change_thread t (λ (x : Thread). record x { clear_address = a }) v.node in
      first v.node b _ (thread-adds k v.node t (λ x. record x { clear_address = a }) 0 (λ x. omega arith)) (lift b _ (answered-adds k b t (pos t)))

  sets_robust_list-adds : (len : ℕ) (v : View) → One v.node (sets_robust_list t len v).node
  sets_robust_list-adds len v = either v.node (len == 24) _ _ (answers-adds (pos 0) v) (answers-adds (refused EINVAL) v)

  -- ---- futex
  futex_wait-adds : (address val timeout : ℕ) (v : View) → One v.node (futex_wait t address val timeout v).node
  futex_wait-adds address val timeout v = either v.node _ _ _ (answers-adds (refused EINVAL) v) (either v.node _ _ _ (answers-adds (refused ENOSYS) v)
      (either v.node _ _ _ (answers-adds (refused EFAULT) v) (either v.node _ _ _ (answers-adds (refused EAGAIN) v) (falls-adds k v.node t address))))

  futex_wake-adds : (address : ℕ) (val : ℤ) (v : View) → One v.node (futex_wake t address val v).node
  futex_wake-adds address val v =
      let q = (thread_of v.node t).process in
      let a = wake q address (wake_count val) v.node in
      either v.node _ _ _ (answers-adds (refused EINVAL) v)
      (lift v.node _ (none-then v.node a _ (wake-adds k v.node q address (wake_count val)) (answered-adds k a t (pos (min (wake_count val) (length (waiters v.node q address)))))))

  futex-adds : (address op val timeout : ℕ) (v : View) → One v.node (futex t address op val timeout v).node
  futex-adds address op val timeout v = either v.node _ _ _ (futex_wait-adds address val timeout v) (either v.node _ _ _ (futex_wake-adds address (int_argument val) v) (answers-adds (refused ENOSYS) v))

  -- ---- signals
  send-adds : (node : Node) (signal : ℕ) (generate : ℕ → Node → Node) → ((s : ℕ) → One node (generate s node)) → One node (send signal generate node)
  send-adds node signal generate f = go (signal == 0)
    where
      go : (b : Bool) → One node (cond b node (generate signal node))
      go true = lift node node (adds-none k node)
      go false = f signal

  kills-adds : (q signal : ℕ) (v : View) → One v.node (kills t q signal v).node
  kills-adds q signal v =
      let a = send signal (generate_for_process q) v.node in
      either v.node _ _ _ (answers-adds (refused ESRCH) v) (last v.node a _ (send-adds v.node signal (generate_for_process q) (λ s. for_process-adds k v.node q s)) (answered-adds k a t (pos 0)))

  kill-adds : (pid signal : ℤ) (v : View) → One v.node (kill t pid signal v).node
  kill-adds pid signal v = go (positive pid) (checked_signal signal)
    where
      go : (o s : Option ℕ) → One v.node (elim o as (λ _. View) [ None ↦ refuses t EINVAL v | Some q ↦ elim s as (λ _. View) [ None ↦ refuses t EINVAL v | Some n ↦ kills t q n v ] ]).node
      go None s = answers-adds (refused EINVAL) v
      go (Some q) None = answers-adds (refused EINVAL) v
      go (Some q) (Some n) = kills-adds q n v

  kills_thread-adds : (q tid signal : ℕ) (v : View) → One v.node (kills_thread t q tid signal v).node
  kills_thread-adds q tid signal v =
      let a = send signal (generate_for_thread tid) v.node in
      either v.node _ _ _ (answers-adds (refused ESRCH) v) (last v.node a _ (send-adds v.node signal (generate_for_thread tid) (λ s. for_thread-adds k v.node tid s)) (answered-adds k a t (pos 0)))

  tgkill-adds : (pid tid signal : ℤ) (v : View) → One v.node (tgkill t pid tid signal v).node
  tgkill-adds pid tid signal v = go (positive pid) (positive tid) (checked_signal signal)
    where
      go : (o d s : Option ℕ) → One v.node (elim o as (λ _. View) [ None ↦ refuses t EINVAL v | Some q ↦ elim d as (λ _. View) [ None ↦ refuses t EINVAL v | Some x ↦ elim s as (λ _. View) [ None ↦ refuses t EINVAL v | Some n ↦ kills_thread t q x n v ] ] ]).node
      go None d s = answers-adds (refused EINVAL) v
      go (Some q) None s = answers-adds (refused EINVAL) v
      go (Some q) (Some x) None = answers-adds (refused EINVAL) v
      go (Some q) (Some x) (Some n) = kills_thread-adds q x n v

  with_action-adds : (a : Node) (q signal : ℕ) (new : Action) → None_more a (with_action q signal new a)
  with_action-adds a q signal new = process-adds k a q (λ x. record x { actions = slice_set x.actions (signal - 1) new }) 0 (λ x. omega arith)

  sets_action-adds : (signal act old : ℕ) (v : View) → One v.node (sets_action t signal act old v).node
  sets_action-adds signal act old v = go (old == 0) (act == 0)
    where
      q : ℕ
      q = (thread_of v.node t).process

      new : Action
      new = action_in (read_bytes v.memory act 24)

      changed : One v.node (answered t (pos 0) (drop_ignored q signal (with_action q signal new v.node)))
      changed =
          let a = with_action q signal new v.node in
          let b = drop_ignored q signal a in
          lift v.node _ (none-then v.node a _ (with_action-adds v.node q signal new) (none-then a b _ (ignored-adds k a q signal) (answered-adds k b t (pos 0))))

      go : (b d : Bool) → One v.node (answers t (pos 0) (cond d (cond b v (store old (action_bytes (action_of (process_of v.node q) signal)) v))
          (on_node (λ node. drop_ignored q signal (with_action q signal new node)) (cond b v (store old (action_bytes (action_of (process_of v.node q) signal)) v))))).node
      go true true = answers-adds (pos 0) v
      go false true = answers-adds (pos 0) v
      go true false = changed
      go false false = changed

  sigaction-adds : (signal : ℤ) (act old size : ℕ) (v : View) → One v.node (sigaction t signal act old size v).node
  sigaction-adds signal act old size v = either v.node _ _ _ (answers-adds (refused EINVAL) v) (either v.node _ _ _ (answers-adds (refused EFAULT) v) (sets_action-adds (nat_of signal) act old v))

  sets_mask-adds : (how : ℤ) (address old : ℕ) (v : View) → One v.node (sets_mask t how address old v).node
  sets_mask-adds how address old v = go (old == 0) (address == 0)
    where
      masked : Thread → Thread
      masked y = record y { mask = new_mask how (number_of (read_bytes v.memory address 8)) y.mask }

      changed : One v.node (answered t (pos 0) (change_thread t masked v.node))
      changed = let a = change_thread t masked v.node in lift v.node _ (none-then v.node a _ (thread-adds k v.node t masked 0 (λ x. omega arith)) (answered-adds k a t (pos 0)))

      go : (b d : Bool) → One v.node (answers t (pos 0) (cond d (cond b v (store old (little_endian 8 (thread_of v.node t).mask) v)) (on_node (change_thread t masked) (cond b v (store old (little_endian 8 (thread_of v.node t).mask) v))))).node
      go true true = answers-adds (pos 0) v
      go false true = answers-adds (pos 0) v
      go true false = changed
      go false false = changed

  sigprocmask-adds : (how : ℤ) (address old size : ℕ) (v : View) → One v.node (sigprocmask t how address old size v).node
  sigprocmask-adds how address old size v = either v.node _ _ _ (answers-adds (refused EINVAL) v) (either v.node _ _ _ (answers-adds (refused EFAULT) v) (sets_mask-adds how address old v))

  sigpending-adds : (address size : ℕ) (v : View) → One v.node (sigpending t address size v).node
  sigpending-adds address size v = either v.node _ _ _ (answers-adds (refused EINVAL) v) (either v.node _ _ _ (answers-adds (refused EFAULT) v) (answers-adds (pos 0) v))

  return-adds : (v : View) → One v.node (return_from_handler t v).node
  return-adds v =
      let bytes = read_bytes v.memory (reg (thread_of v.node t).regs 2) frame_size in
      either v.node _ _ _ (lift v.node _ (thread-adds k v.node t (λ y. record y { regs = restored bytes; mask = mask_in bytes; does = Ready }) 0 (λ x. omega arith))) (raised-adds k v.node t 11)

  -- ---- wait4
  noted-adds : (child : ℕ) (v : View) → None_more v.node (noted_waited child v).node
  noted-adds child v = process-adds k v.node child (λ x. record x { waited = true }) 0 (λ x. omega arith)

  -- the end of a wait adds nothing
  tells-adds : (child status : ℕ) (v : View) → None_more v.node (tells_end t child status v).node
  tells-adds child status v = go (status == 0) (may_access v.memory Write status 4)
    where
      told : View
      told = answers t (pos child) (noted_waited child v)

      done : None_more v.node told.node
      done = none-then v.node (noted_waited child v).node _ (noted-adds child v) (answered-adds k (noted_waited child v).node t (pos child))

      go : (b d : Bool) → None_more v.node (cond b told (cond d (store status (little_endian 4 (status_of_life (process_of v.node child).life)) told) (refuses t EFAULT (noted_waited child v)))).node
      go true d = done
      go false true = done
      go false false = none-then v.node (noted_waited child v).node _ (noted-adds child v) (answered-adds k (noted_waited child v).node t (refused EFAULT))

  pub wait_over-adds : (pid : ℤ) (status : ℕ) (v : View) → None_more v.node (wait_over t pid status v).node
  wait_over-adds pid status v = go (ended_child v.node (thread_of v.node t).process pid)
    where
      go : (o : Option ℕ) → None_more v.node (waits_for t pid status v o).node
      go None = answered-adds k v.node t (refused ECHILD)
      go (Some child) = tells-adds child status v

  wait4-adds : (pid : ℤ) (status options rusage : ℕ) (v : View) → One v.node (wait4 t pid status options rusage v).node
  wait4-adds pid status options rusage v = either v.node _ _ _ (answers-adds (refused EINVAL) v) (either v.node _ _ _ (answers-adds (refused ENOSYS) v) (either v.node _ _ _ (lift v.node _ (wait_over-adds pid status v))
      (either v.node _ _ _ (answers-adds (pos 0) v) (does-adds k v.node t (InWait pid status)))))

  -- ---- all of them but clone
  pub calls-add : (call : LocalCall) (a : ℕ → ℕ) (v : View) → One v.node (one_of_calls t call a v).node
  calls-add Calls.Exit a v = exits-adds (exit_code (a 0)) v
  calls-add Calls.ExitGroup a v = exits_group-adds (exit_code (a 0)) v
  calls-add Calls.SetTidAddress a v = sets_clear_address-adds (a 0) v
  calls-add Calls.Futex a v = futex-adds (a 0) (a 1) (a 2) (a 3) v
  calls-add Calls.SetRobustList a v = sets_robust_list-adds (a 1) v
  calls-add Calls.SchedYield a v = answers-adds (pos 0) v
  calls-add Calls.Kill a v = kill-adds (int_argument (a 0)) (int_argument (a 1)) v
  calls-add Calls.Tgkill a v = tgkill-adds (int_argument (a 0)) (int_argument (a 1)) (int_argument (a 2)) v
  calls-add Calls.RtSigaction a v = sigaction-adds (int_argument (a 0)) (a 1) (a 2) (a 3) v
  calls-add Calls.RtSigprocmask a v = sigprocmask-adds (int_argument (a 0)) (a 1) (a 2) (a 3) v
  calls-add Calls.RtSigpending a v = sigpending-adds (a 0) (a 1) v
  calls-add Calls.RtSigreturn a v = return-adds v
  calls-add Calls.Getpid a v = answers-adds (pos (thread_of v.node t).process) v
  calls-add Calls.Getppid a v = answers-adds (pos (parent_number v.node (thread_of v.node t).process)) v
  calls-add Calls.Gettid a v = answers-adds (pos t) v
  calls-add Calls.Wait4 a v = wait4-adds (int_argument (a 0)) (a 1) (a 2 % 2 ^ 32) (a 3) v

  -- ---- a thread more
  stored : (b c : Bool) (address : ℕ) (bytes : _) (w : View) → (cond b (cond c (store address bytes w) w) w).node ≡ w.node
  stored true true address bytes w = refl
  stored true false address bytes w = refl
  stored false c address bytes w = refl

  thread-more : (a : Node) (x : Thread) → of_thread k.change x ≡ 0 → None_more a (with_thread x a)
  thread-more a x e = record { less = (let p = total-put (of_thread k.change) a.threads a.next_number x in omega (arith, p, e)); files = refl }

  clones-adds : (flags stack parent_tid tls child_tid : ℕ) (v : View) → One v.node (clones t flags stack parent_tid tls child_tid v).node
  clones-adds flags stack parent_tid tls child_tid v =
      let e = no-signals in
      let a = thread-more v.node x (omega (arith, e)) in
      let s = stored (has_bit 24 flags) (may_access told.memory Write child_tid (length (little_endian 4 n))) child_tid (little_endian 4 n) told
      ∙ stored (has_bit 20 flags) (may_access made.memory Write parent_tid (length (little_endian 4 n))) parent_tid (little_endian 4 n) made in
      rw s (first v.node made.node _ a (lift made.node _ (answered-adds k made.node t (pos n))))
    where
      n : ℕ
      n = v.node.next_number

      x : Thread
      x = cloned_thread v.node (thread_of v.node t) flags stack tls child_tid

      made : View
      made = on_node (with_thread x) v

      told : View
      told = cond (has_bit 20 flags) (cond (may_access made.memory Write parent_tid (length (little_endian 4 n))) (store parent_tid (little_endian 4 n) made) made) made

  pub clone-adds : (flags stack parent_tid tls child_tid : ℕ) (v : View) → One v.node (clone t flags stack parent_tid tls child_tid v).node
  clone-adds flags stack parent_tid tls child_tid v = either v.node _ _ _ (answers-adds (refused EINVAL) v) (either v.node _ _ _ (answers-adds (refused EAGAIN) v) (clones-adds flags stack parent_tid tls child_tid v))
