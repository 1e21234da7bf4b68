-- A thread that traps is Stopped no longer, whatever its call comes to: each call ends with its answer, its rest, or its end.
use Rattle.file_model.specs.Errno.{EAGAIN, ECHILD, EFAULT, EINVAL, ENOSYS, ESRCH}
use Rattle.hybrid_laws.proofs.maps.Sums.{counted_in}
use Rattle.hybrid_laws.proofs.node.Primitives.{at-change}
use Rattle.hybrid_laws.specs.Stopped.{stops}
use Rattle.hybrid_model.specs.Tallies.{as_number}
use Rattle.isa_model.specs.Memory.{may_access, read_bytes}
use Rattle.isa_model.specs.Registers.{reg}
use Rattle.kernel_model.specs.Calls.{one_of_calls}
use Rattle.kernel_model.specs.CloneCalls.{ended_child, noted_waited, parent_number, status_of_life, wait4, wait_over, waits_for}
use Rattle.kernel_model.specs.LocalCalls.{answers, clear_word, code_of, exit_code, exits, exits_group, falls_asleep, futex, futex_wait, futex_wake, note_first_code, refuses, sets_clear_address, sets_robust_list, waiters, wake, wake_count}
use Rattle.kernel_model.specs.Nodes.{Node, Process, Thread, action_of, answered, change_process, change_thread, dies, is_living, is_stopped, process_of, set_a0, set_does, thread_of, threads_of, without_thread}
use Rattle.kernel_model.specs.SignalCalls.{action_bytes, action_in, checked_signal, kill, kills, kills_thread, nat_of, new_mask, positive, send, sets_action, sets_mask, sigaction, sigpending, sigprocmask, tgkill}
use Rattle.kernel_model.specs.SignalSets.{has, with_signal}
use Rattle.kernel_model.specs.Signals.{View, drop_ignored, frame_size, generate_for_process, generate_for_thread, ignores, mask_in, on_node, raised, restored, return_from_handler, store, with_action}
use Rattle.kernel_model.specs.Traps.{finishes}
use Rattle.kernel_model.specs.declared.Does.TheVariants.{Asleep, InWait, Ready}
use Rattle.kernel_model.specs.declared.Does.{Does}
use Rattle.mck_word.specs.MapLaws.{at-cut}
use Rattle.mck_word.specs.Maps.{at}
use Rattle.mck_word.specs.Words.{int_argument, little_endian, number_of, refused, word_of}
use Rattle.mck_word.specs.declared.Access.TheVariants.{Write}
use Rattle.mck_word.specs.declared.End.TheVariants.{Exit, Killed}
use Rattle.std.proofs.Common.{ap, arith, refl, ◌∙◌}
use Rattle.std.proofs.lemmas.Bool.Decides.{nat_tests}
use Rattle.std.specs.Prelude.{Bool, None, Option, Some, cond, false, length, min, option_map, pos, true, ℕ, ℤ, ◌%◌, ◌==◌, ◌^◌, ◌||◌, ◌≡◌}
use Rattle.system_calls.specs.declared.LocalCall.TheVariants as Calls
use Rattle.system_calls.specs.declared.LocalCall.{LocalCall}

module _ (t : ℕ) where
  -- the thread isn't Stopped, or isn't there
  pub record Settled (a : Node) : Type 0 where
    pub none : counted_in stops (at a.threads t) ≡ 0

  same : (t == t) ≡ true
  same = grind (arith, nat_tests)

  pub changed-settled : (a : Node) (f : Thread → Thread) → ((x : Thread) → stops (f x) ≡ 0) → Settled (change_thread t f a)
  changed-settled a f h = record { none = ap (counted_in stops) (at-change a.threads t f t ∙ ap (λ b. cond b (option_map f (at a.threads t)) (at a.threads t)) same) ∙ go (at a.threads t) }
    where
      go : (o : Option Thread) → counted_in stops (option_map f o) ≡ 0
      go None = refl
      go (Some x) = h x

  -- what changes no thread
  pub kept-settled : (a b : Node) → b.threads ≡ a.threads → Settled a → Settled b
  kept-settled a b e h = record { none = ap (λ m. counted_in stops (at m t)) e ∙ h.none }

  pub answered-settled : (a : Node) (answer : ℤ) → Settled (answered t answer a)
  answered-settled a answer = changed-settled a (λ x. record x { regs = set_a0 (word_of answer) x.regs; does = Ready }) (λ x. refl)

  pub does-settled : (a : Node) (d : Does) → is_stopped d ≡ false → Settled (set_does t d a)
  does-settled a d h = changed-settled a (λ x. record x { does = d }) (λ x. ap as_number h)

  pub gone-settled : (a : Node) → Settled (without_thread t a)
  gone-settled a = record { none = ap (counted_in stops) (at-cut a.threads t t ∙ ap (λ b. cond b None (at a.threads t)) same) }

  pub finished-settled : (a : Node) (answer : ℤ) → Settled (finishes t answer a)
  unfolding finishes
  finished-settled a answer = go (is_living a (thread_of a t).process)
    where
      go : (b : Bool) → Settled (cond b (answered t answer a) (without_thread t a))
      go true = answered-settled a answer
      go false = gone-settled a

  pub raised-settled : (a : Node) (signal : ℕ) → Settled (raised t signal a)
  raised-settled a signal = go (has signal (thread_of a t).mask || ignores (process_of a (thread_of a t).process) signal)
    where
      ready : Node
      ready = set_does t Ready a

      go : (b : Bool) → Settled (cond b (change_process (thread_of a t).process (dies (Killed signal)) ready) (change_thread t (λ (y : Thread). record y { pending = with_signal signal y.pending; does = Ready }) a))
      go true = kept-settled ready (change_process (thread_of a t).process (dies (Killed signal)) ready) refl (does-settled a Ready refl)
      go false = changed-settled a (λ y. record y { pending = with_signal signal y.pending; does = Ready }) (λ x. refl)

  -- ---- views
  either : (b : Bool) (v w : View) → Settled v.node → Settled w.node → Settled (cond b v w).node
  either true v w f g = f
  either false v w f g = g

  pub answers-settled : (answer : ℤ) (v : View) → Settled (answers t answer v).node
  answers-settled answer v = answered-settled v.node answer

  no : (errno : ℕ) (v : View) → Settled (refuses t errno v).node
  no errno v = answered-settled v.node (refused errno)

  -- ---- exit and exit_group
  exits-settled : (code : ℕ) (v : View) → Settled (exits t code v).node
  exits-settled code v = go (length (threads_of a x.process) == 0)
    where
      x : Thread
      x = thread_of v.node t

      b : Node
      b = note_first_code t x code (clear_word x v).node

      a : Node
      a = without_thread t b

      end : Process → Process
      end y = dies (Exit (code_of y)) y

      go : (c : Bool) → Settled (cond c (change_process x.process end a) a)
      go true = kept-settled a (change_process x.process end a) refl (gone-settled b)
      go false = gone-settled b

  exits_group-settled : (code : ℕ) (v : View) → Settled (exits_group t code v).node
  exits_group-settled code v = let a = set_does t Ready v.node in kept-settled a (change_process (thread_of v.node t).process (dies (Exit code)) a) refl (does-settled v.node Ready refl)

  -- ---- futex
  futex_wait-settled : (address val timeout : ℕ) (v : View) → Settled (futex_wait t address val timeout v).node
  futex_wait-settled address val timeout v = either _ _ _ (no EINVAL v) (either _ _ _ (no ENOSYS v) (either _ _ _ (no EFAULT v) (either _ _ _ (no EAGAIN v) (does-settled (record v.node { sleepers = (falls_asleep t address v.node).sleepers }) (Asleep address) refl))))

  futex_wake-settled : (address : ℕ) (val : ℤ) (v : View) → Settled (futex_wake t address val v).node
  futex_wake-settled address val v =
      let q = (thread_of v.node t).process in
      either _ _ _ (no EINVAL v) (answered-settled (wake q address (wake_count val) v.node) (pos (min (wake_count val) (length (waiters v.node q address)))))

  futex-settled : (address op val timeout : ℕ) (v : View) → Settled (futex t address op val timeout v).node
  futex-settled address op val timeout v = either _ _ _ (futex_wait-settled address val timeout v) (either _ _ _ (futex_wake-settled address (int_argument val) v) (no ENOSYS v))

  -- ---- signals
  kills-settled : (q signal : ℕ) (v : View) → Settled (kills t q signal v).node
  kills-settled q signal v = either _ _ _ (no ESRCH v) (answered-settled (send signal (generate_for_process q) v.node) (pos 0))

  kill-settled : (pid signal : ℤ) (v : View) → Settled (kill t pid signal v).node
  kill-settled pid signal v = go (positive pid) (checked_signal signal)
    where
      go : (o s : Option ℕ) → Settled (elim o as (λ _. View) [ None ↦ refuses t EINVAL v | Some q ↦ elim s as (λ _. View) [ None ↦ refuses t EINVAL v | Some n ↦ kills t q n v ] ]).node
      go None s = no EINVAL v
      go (Some q) None = no EINVAL v
      go (Some q) (Some n) = kills-settled q n v

  kills_thread-settled : (q tid signal : ℕ) (v : View) → Settled (kills_thread t q tid signal v).node
  kills_thread-settled q tid signal v = either _ _ _ (no ESRCH v) (answered-settled (send signal (generate_for_thread tid) v.node) (pos 0))

  tgkill-settled : (pid tid signal : ℤ) (v : View) → Settled (tgkill t pid tid signal v).node
  tgkill-settled pid tid signal v = go (positive pid) (positive tid) (checked_signal signal)
    where
      go : (o d s : Option ℕ) → Settled (elim o as (λ _. View) [ None ↦ refuses t EINVAL v | Some q ↦ elim d as (λ _. View) [ None ↦ refuses t EINVAL v | Some x ↦ elim s as (λ _. View) [ None ↦ refuses t EINVAL v | Some n ↦ kills_thread t q x n v ] ] ]).node
      go None d s = no EINVAL v
      go (Some q) None s = no EINVAL v
      go (Some q) (Some x) None = no EINVAL v
      go (Some q) (Some x) (Some n) = kills_thread-settled q x n v

  -- whatever was changed before, and stored
  sets_action-settled : (signal act old : ℕ) (v : View) → Settled (sets_action t signal act old v).node
  sets_action-settled signal act old v = answers-settled (pos 0) (cond (act == 0) stored (on_node (λ node. drop_ignored q signal (with_action q signal (action_in (read_bytes v.memory act 24)) node)) stored))
    where
      q : ℕ
      q = (thread_of v.node t).process

      stored : View
      stored = cond (old == 0) v (store old (action_bytes (action_of (process_of v.node q) signal)) v)

  sigaction-settled : (signal : ℤ) (act old size : ℕ) (v : View) → Settled (sigaction t signal act old size v).node
  sigaction-settled signal act old size v = either _ _ _ (no EINVAL v) (either _ _ _ (no EFAULT v) (sets_action-settled (nat_of signal) act old v))

  sets_mask-settled : (how : ℤ) (address old : ℕ) (v : View) → Settled (sets_mask t how address old v).node
  sets_mask-settled how address old v = answers-settled (pos 0) (cond (address == 0) stored (on_node (change_thread t (λ (y : Thread). record y { mask = new_mask how (number_of (read_bytes v.memory address 8)) y.mask })) stored))
    where
      stored : View
      stored = cond (old == 0) v (store old (little_endian 8 (thread_of v.node t).mask) v)

  sigprocmask-settled : (how : ℤ) (address old size : ℕ) (v : View) → Settled (sigprocmask t how address old size v).node
  sigprocmask-settled how address old size v = either _ _ _ (no EINVAL v) (either _ _ _ (no EFAULT v) (sets_mask-settled how address old v))

  sigpending-settled : (address size : ℕ) (v : View) → Settled (sigpending t address size v).node
  sigpending-settled address size v = either _ _ _ (no EINVAL v) (either _ _ _ (no EFAULT v) (answered-settled v.node (pos 0)))

  return-settled : (v : View) → Settled (return_from_handler t v).node
  return-settled v =
      let bytes = read_bytes v.memory (reg (thread_of v.node t).regs 2) frame_size in
      either _ _ _ (changed-settled v.node (λ y. record y { regs = restored bytes; mask = mask_in bytes; does = Ready }) (λ x. refl)) (raised-settled v.node 11)

  -- ---- wait4
  wait_over-settled : (pid : ℤ) (status : ℕ) (v : View) → Settled (wait_over t pid status v).node
  wait_over-settled pid status v = go (ended_child v.node (thread_of v.node t).process pid)
    where
      tells : (child : ℕ) (b d : Bool) → Settled (cond b (answers t (pos child) (noted_waited child v)) (cond d (store status (little_endian 4 (status_of_life (process_of v.node child).life)) (answers t (pos child) (noted_waited child v))) (refuses t EFAULT (noted_waited child v)))).node
      tells child true d = answers-settled (pos child) (noted_waited child v)
      tells child false true = answers-settled (pos child) (noted_waited child v)
      tells child false false = no EFAULT (noted_waited child v)

      go : (o : Option ℕ) → Settled (waits_for t pid status v o).node
      go None = no ECHILD v
      go (Some child) = tells child (status == 0) (may_access v.memory Write status 4)

  wait4-settled : (pid : ℤ) (status options rusage : ℕ) (v : View) → Settled (wait4 t pid status options rusage v).node
  wait4-settled pid status options rusage v = either _ _ _ (no EINVAL v) (either _ _ _ (no ENOSYS v) (either _ _ _ (wait_over-settled pid status v) (either _ _ _ (answers-settled (pos 0) v) (does-settled v.node (InWait pid status) refl))))

  sets_robust_list-settled : (len : ℕ) (v : View) → Settled (sets_robust_list t len v).node
  sets_robust_list-settled len v = either _ _ _ (answers-settled (pos 0) v) (no EINVAL v)

  sets_clear_address-settled : (address : ℕ) (v : View) → Settled (sets_clear_address t address v).node
  sets_clear_address-settled address v = answered-settled (change_thread t (λ (x : Thread). record x { clear_address = address }) v.node) (pos t)

  -- ---- all of them
  pub calls-settled : (call : LocalCall) (a : ℕ → ℕ) (v : View) → Settled (one_of_calls t call a v).node
  calls-settled Calls.Exit a v = exits-settled (exit_code (a 0)) v
  calls-settled Calls.ExitGroup a v = exits_group-settled (exit_code (a 0)) v
  calls-settled Calls.SetTidAddress a v = sets_clear_address-settled (a 0) v
  calls-settled Calls.Futex a v = futex-settled (a 0) (a 1) (a 2) (a 3) v
  calls-settled Calls.SetRobustList a v = sets_robust_list-settled (a 1) v
  calls-settled Calls.SchedYield a v = answers-settled (pos 0) v
  calls-settled Calls.Kill a v = kill-settled (int_argument (a 0)) (int_argument (a 1)) v
  calls-settled Calls.Tgkill a v = tgkill-settled (int_argument (a 0)) (int_argument (a 1)) (int_argument (a 2)) v
  calls-settled Calls.RtSigaction a v = sigaction-settled (int_argument (a 0)) (a 1) (a 2) (a 3) v
  calls-settled Calls.RtSigprocmask a v = sigprocmask-settled (int_argument (a 0)) (a 1) (a 2) (a 3) v
  calls-settled Calls.RtSigpending a v = sigpending-settled (a 0) (a 1) v
  calls-settled Calls.RtSigreturn a v = return-settled v
  calls-settled Calls.Getpid a v = answers-settled (pos (thread_of v.node t).process) v
  calls-settled Calls.Getppid a v = answers-settled (pos (parent_number v.node (thread_of v.node t).process)) v
  calls-settled Calls.Gettid a v = answers-settled (pos t) v
  calls-settled Calls.Wait4 a v = wait4-settled (int_argument (a 0)) (a 1) (a 2 % 2 ^ 32) (a 3) v
