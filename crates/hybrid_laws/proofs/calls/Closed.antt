-- A relation between nodes that each of the few words keeps by which calls and signals change a node is kept by every local call and every delivery.
use Rattle.file_model.specs.Errno.{EAGAIN, ECHILD, EFAULT, EINTR, EINVAL, ENOSYS, EPIPE, ESRCH}
use Rattle.hybrid_laws.proofs.node.Primitives.{Quiet}
use Rattle.isa_model.specs.Memory.{may_access, read_bytes}
use Rattle.isa_model.specs.Registers.{reg}
use Rattle.kernel_model.specs.Calls.{one_of_calls}
use Rattle.kernel_model.specs.CloneCalls.{ended_child, noted_waited, parent_number, status_of_life, tells_end, wait4, wait_over, waits_for}
use Rattle.kernel_model.specs.LocalCalls.{answers, clear_word, code_of, dies_without_threads, exit_code, exits, exits_group, falls_asleep, futex, futex_wait, futex_wake, note_first_code, refuses, sets_clear_address, sets_robust_list, waiters, wake, wake_count}
use Rattle.kernel_model.specs.Nodes.{Node, Process, ScriptLine, Thread, action_of, answered, change_process, change_thread, dies, dies_from, has_ended, is_living, process_of, set_a0, set_does, set_pc, thread_of, threads_of, without_thread}
use Rattle.kernel_model.specs.SignalCalls.{action_bytes, action_in, checked_signal, kill, kills, kills_thread, new_mask, positive, send, sets_action, sets_mask, sigaction, sigpending, sigprocmask, tgkill, nat_of}
use Rattle.kernel_model.specs.SignalSets.{has, with_signal, without_signal}
use Rattle.kernel_model.specs.Signals.{SA_RESETHAND, View, after_reset, deliver, deliver_signal, drop_ignored, enter_handler, frame_address, frame_size, generate_for_process, generate_for_thread, handler_mask, handler_regs, ignores, interrupted_regs, mask_in, moved_to_own, next_signal, on_node, raised, restored, return_from_handler, frame_bytes as signal_frame, store, taken, with_action}
use Rattle.kernel_model.specs.Traps.{finishes, is_error, line_is, line_of, returns, script_sent, sent}
use Rattle.kernel_model.specs.declared.Action.{Action}
use Rattle.kernel_model.specs.declared.Does.TheVariants.{Asleep, Called, InVm, InWait, Ready, Stopped}
use Rattle.kernel_model.specs.declared.Does.{Does}
use Rattle.kernel_model.specs.declared.Life.TheVariants.{Dying, Ended as LifeEnded, Living}
use Rattle.kernel_model.specs.declared.Life.{Life}
use Rattle.mck_word.specs.Words.{int_argument, little_endian, number_of, refused, word_of}
use Rattle.mck_word.specs.declared.Access.TheVariants.{Write}
use Rattle.mck_word.specs.declared.End.TheVariants.{Exit, Killed}
use Rattle.mck_word.specs.declared.End.{End}
use Rattle.mck_word.specs.declared.Regs.{Regs}
use Rattle.std.proofs.Common.{refl}
use Rattle.std.specs.Prelude.{Bool, List, None, Option, Some, cond, false, filter, length, min, not, pos, slice_set, true, ℕ, ℤ, ◌%◌, ◌+◌, ◌-◌, ◌==◌, ◌^◌, ◌||◌, ◌≡◌}
use Rattle.system_calls.specs.declared.LocalCall.TheVariants as Calls
use Rattle.system_calls.specs.declared.LocalCall.{LocalCall}

-- a thread is Ready, InVm or waits for a child
abbrev pub is_plain : Does → Bool
is_plain Ready = true
is_plain (InVm c) = true
is_plain (InWait pid status) = true
is_plain (Stopped s) = false
is_plain Called = false
is_plain (Asleep a) = false

-- the thread stays in its process at its place, and is then plain
pub record Leaves (f : Thread → Thread) : Type 0 where
  pub process : (x : Thread) → (f x).process ≡ x.process
  pub place : (x : Thread) → (f x).place ≡ x.place
  pub plain : (x : Thread) → is_plain (f x).does ≡ true

-- the heap and its limit, the instructions and whether it is Ended stay
pub record Calm (f : Process → Process) : Type 0 where
  pub heap : (x : Process) → (f x).heap_base ≡ x.heap_base
  pub limit : (x : Process) → (f x).program_break ≡ x.program_break
  pub instructions : (x : Process) → (f x).instructions ≡ x.instructions
  pub ended : (x : Process) → has_ended (f x).life ≡ has_ended x.life

pub dies-calm : (end : Process → End) → Calm (λ x. dies (end x) x)
dies-calm end = record { heap = λ x. refl; limit = λ x. refl; instructions = λ x. refl; ended = λ x. go (end x) x.life }
  where
    go : (e : End) (l : Life) → has_ended (dies_from e l) ≡ has_ended l
    go e Living = refl
    go e (Dying d) = refl
    go e (LifeEnded d) = refl

-- R of the changes of the thread t, other threads and processes; Q is R, and of t falling asleep too
pub record Closed (t : ℕ) (R Q : Node → Node → Type 0) : Type 0 where
  pub same : (a : Node) → R a a
  pub joined : (a b c : Node) → R a b → R b c → R a c
  pub lift : (a b : Node) → R a b → Q a b
  pub quiet : (a : Node) (u : ℕ) (f : Thread → Thread) → Quiet f → R a (change_thread u f a)
  pub moves : (a : Node) (f : Thread → Thread) → Leaves f → R a (change_thread t f a)
  pub process : (a : Node) (q : ℕ) (f : Process → Process) → Calm f → R a (change_process q f a)
  pub gone : (a : Node) → R a (without_thread t a)
  pub woken : (a : Node) (process address n : ℕ) → R a (wake process address n a)
  pub ignored : (a : Node) (q signal : ℕ) → R a (drop_ignored q signal a)
  pub falls : (a : Node) (address : ℕ) → Q a (falls_asleep t address a)

module _ (t : ℕ) (R Q : Node → Node → Type 0) (k : Closed t R Q) where
  then : {a b c : Node} → R a b → R b c → R a c
  then {a} {b} {c} f g = k.joined a b c f g

  either : {a x y : Node} (b : Bool) → R a x → R a y → R a (cond b x y)
  either true f g = f
  either false f g = g

  either-view : {a : Node} (b : Bool) (v w : View) → R a v.node → R a w.node → R a (cond b v w).node
  either-view true v w f g = f
  either-view false v w f g = g

  either-final : {a : Node} (b : Bool) (v w : View) → Q a v.node → Q a w.node → Q a (cond b v w).node
  either-final true v w f g = f
  either-final false v w f g = g

  pub answered-closed : (node : Node) (a : ℤ) → R node (answered t a node)
  answered-closed node a = k.moves node (λ x. record x { regs = set_a0 (word_of a) x.regs; does = Ready }) (record { process = λ x. refl; place = λ x. refl; plain = λ x. refl })

  pub does-closed : (node : Node) (d : Does) → is_plain d ≡ true → R node (set_does t d node)
  does-closed node d e = k.moves node (λ x. record x { does = d }) (record { process = λ x. refl; place = λ x. refl; plain = λ x. e })

  pub dies-closed : (node : Node) (q : ℕ) (end : End) → R node (change_process q (dies end) node)
  dies-closed node q end = k.process node q (dies end) (dies-calm (λ x. end))

  pub for_process-closed : (node : Node) (q signal : ℕ) → R node (generate_for_process q signal node)
  for_process-closed node q signal = either (ignores (process_of node q) signal) (k.same node) (k.process node q (λ x. record x { pending = with_signal signal x.pending }) (record { heap = λ x. refl; limit = λ x. refl; instructions = λ x. refl; ended = λ x. refl }))

  pub for_thread-closed : (node : Node) (u signal : ℕ) → R node (generate_for_thread u signal node)
  for_thread-closed node u signal = either (ignores (process_of node (thread_of node u).process) signal) (k.same node)
      (k.quiet node u (λ x. record x { pending = with_signal signal x.pending }) (record { process = λ x. refl; place = λ x. refl; does = λ x. refl }))

  pub taken-closed : (node : Node) (u signal : ℕ) → R node (taken u signal node)
  taken-closed node u signal = either (has signal (thread_of node u).pending)
      (k.quiet node u (λ y. record y { pending = without_signal signal y.pending }) (record { process = λ x. refl; place = λ x. refl; does = λ x. refl }))
      (k.process node (thread_of node u).process (λ x. record x { pending = without_signal signal x.pending }) (record { heap = λ x. refl; limit = λ x. refl; instructions = λ x. refl; ended = λ x. refl }))

  pub moved-closed : (node : Node) (u : ℕ) → R node (moved_to_own u node)
  moved-closed node u = go (next_signal node u)
    where
      go : (o : Option ℕ) → R node (elim o as (λ _. Node) [ None ↦ node | Some signal ↦ change_thread u (λ (y : Thread). record y { pending = with_signal signal y.pending }) (taken u signal node) ])
      go None = k.same node
      go (Some signal) = then (taken-closed node u signal) (k.quiet (taken u signal node) u (λ y. record y { pending = with_signal signal y.pending }) (record { process = λ x. refl; place = λ x. refl; does = λ x. refl }))

  pub raised-closed : (node : Node) (signal : ℕ) → R node (raised t signal node)
  raised-closed node signal = either (has signal (thread_of node t).mask || ignores (process_of node (thread_of node t).process) signal)
      (then (does-closed node Ready refl) (dies-closed (set_does t Ready node) (thread_of node t).process (Killed signal)))
      (k.moves node (λ y. record y { pending = with_signal signal y.pending; does = Ready }) (record { process = λ x. refl; place = λ x. refl; plain = λ x. refl }))

  pub past-closed : (node : Node) → R node (change_thread t (λ (x : Thread). record x { regs = set_pc (x.regs.pc + 4) x.regs }) node)
  past-closed node = k.quiet node t (λ x. record x { regs = set_pc (x.regs.pc + 4) x.regs }) (record { process = λ x. refl; place = λ x. refl; does = λ x. refl })

  pub returns-closed : (node : Node) (a : ℤ) → R node (returns t a node)
  unfolding returns
  returns-closed node a = either (is_living node (thread_of node t).process)
      (either (is_error EINTR a) (k.moves node (λ x. record x { regs = set_pc (x.regs.pc + (2 ^ 64 - 4)) x.regs; back = true; does = Ready }) (record { process = λ x. refl; place = λ x. refl; plain = λ x. refl }))
      (either (is_error EPIPE a) (then (answered-closed node a) (for_thread-closed (answered t a node) t 13)) (answered-closed node a)))
      (k.gone node)

  pub finishes-closed : (node : Node) (a : ℤ) → R node (finishes t a node)
  unfolding finishes
  finishes-closed node a = either (is_living node (thread_of node t).process) (answered-closed node a) (k.gone node)

  pub script-closed : (line : ℕ) (node : Node) → ((a : Node) (unsent : List ScriptLine) → R a (record a { unsent = unsent })) → R node (script_sent line node)
  unfolding script_sent
  script-closed line node f = go (line_of node line)
    where
      go : (o : Option ScriptLine) → R node (sent line node o)
      go None = k.same node
      go (Some l) =
          let a : Node = record node { unsent = filter (λ x. not (line_is line x)) node.unsent } in
          then (f node (filter (λ x. not (line_is line x)) node.unsent)) (for_process-closed a l.process l.signal)

  pub answers-closed : (a : ℤ) (v : View) → R v.node (answers t a v).node
  answers-closed a v = answered-closed (v.node) a

  -- ---- exit and exit_group
  clear-closed : (x : Thread) (v : View) → R v.node (clear_word x v).node
  clear-closed x v = go (x.clear_address == 0) (may_access v.memory Write x.clear_address (length (little_endian 4 0)))
    where
      stored : View
      stored = store x.clear_address (little_endian 4 0) v

      go : (b d : Bool) → R v.node (cond b v (on_node (wake x.process x.clear_address 1) (cond d (store x.clear_address (little_endian 4 0) v) v))).node
      go true d = k.same v.node
      go false true = k.woken v.node x.process x.clear_address 1
      go false false = k.woken v.node x.process x.clear_address 1

  note-closed : (node : Node) (x : Thread) (code : ℕ) → R node (note_first_code t x code node)
  note-closed node x code = either (t == x.process) (k.process node x.process (λ y. record y { first_code = Some code }) (record { heap = λ x. refl; limit = λ x. refl; instructions = λ x. refl; ended = λ x. refl })) (k.same node)

  dies_without-closed : (node : Node) (q : ℕ) → R node (dies_without_threads q node)
  dies_without-closed node q = either (length (threads_of node q) == 0) (k.process node q (λ x. dies (Exit (code_of x)) x) (dies-calm (λ x. Exit (code_of x)))) (k.same node)

  pub exits-closed : (code : ℕ) (v : View) → R v.node (exits t code v).node
  exits-closed code v =
      let x = thread_of v.node t in
      let a = (clear_word x v).node in
      then (clear-closed x v) (then (note-closed a x code) (then (k.gone (note_first_code t x code a)) (dies_without-closed (without_thread t (note_first_code t x code a)) x.process)))

  pub exits_group-closed : (code : ℕ) (v : View) → R v.node (exits_group t code v).node
  exits_group-closed code v = then (does-closed v.node Ready refl) (dies-closed (set_does t Ready v.node) (thread_of v.node t).process (Exit code))

  pub sets_clear_address-closed : (a : ℕ) (v : View) → R v.node (sets_clear_address t a v).node
  sets_clear_address-closed a v = then
      (k.quiet v.node t (λ x. record x { clear_address = a }) (record { process = λ x. refl; place = λ x. refl; does = λ x. refl }))
      (answered-closed ((change_thread t (λ (x : Thread). record x { clear_address = a }) v.node)) (pos t))

  pub sets_robust_list-closed : (len : ℕ) (v : View) → R v.node (sets_robust_list t len v).node
  sets_robust_list-closed len v = either-view _ _ _ (answers-closed (pos 0) v) (answers-closed (refused EINVAL) v)

  -- ---- futex
  futex_wait-closed : (address val timeout : ℕ) (v : View) → Q v.node (futex_wait t address val timeout v).node
  futex_wait-closed address val timeout v = either-final _ _ _ (k.lift v.node (answered t (refused EINVAL) v.node) (answers-closed (refused EINVAL) v)) (either-final _ _ _ (k.lift v.node (answered t (refused ENOSYS) v.node) (answers-closed (refused ENOSYS) v))
      (either-final _ _ _ (k.lift v.node (answered t (refused EFAULT) v.node) (answers-closed (refused EFAULT) v)) (either-final _ _ _ (k.lift v.node (answered t (refused EAGAIN) v.node) (answers-closed (refused EAGAIN) v)) (k.falls v.node address))))

  futex_wake-closed : (address : ℕ) (val : ℤ) (v : View) → R v.node (futex_wake t address val v).node
  futex_wake-closed address val v =
      let q = (thread_of v.node t).process in
      either-view _ _ _ (answers-closed (refused EINVAL) v)
      (then (k.woken v.node q address (wake_count val)) (answered-closed (wake q address (wake_count val) v.node) (pos (min (wake_count val) (length (waiters v.node q address))))))

  pub futex-closed : (address op val timeout : ℕ) (v : View) → Q v.node (futex t address op val timeout v).node
  futex-closed address op val timeout v = either-final _ _ _ (futex_wait-closed address val timeout v) (k.lift v.node _ (either-view _ _ _ (futex_wake-closed address (int_argument val) v) (answers-closed (refused ENOSYS) v)))

  -- ---- signals
  send-closed : (node : Node) (signal : ℕ) (generate : ℕ → Node → Node) → ((s : ℕ) → R node (generate s node)) → R node (send signal generate node)
  send-closed node signal generate f = either (signal == 0) (k.same node) (f signal)

  kills-closed : (q signal : ℕ) (v : View) → R v.node (kills t q signal v).node
  kills-closed q signal v = either-view _ _ _ (answers-closed (refused ESRCH) v)
      (then (send-closed v.node signal (generate_for_process q) (λ s. for_process-closed v.node q s)) (answered-closed ((send signal (generate_for_process q) v.node)) (pos 0)))

  pub kill-closed : (pid signal : ℤ) (v : View) → R v.node (kill t pid signal v).node
  kill-closed pid signal v = first (positive pid) (checked_signal signal)
    where
      first : (o s : Option ℕ) → R v.node (elim o as (λ _. View) [ None ↦ refuses t EINVAL v | Some q ↦ elim s as (λ _. View) [ None ↦ refuses t EINVAL v | Some n ↦ kills t q n v ] ]).node
      first None s = answers-closed (refused EINVAL) v
      first (Some q) None = answers-closed (refused EINVAL) v
      first (Some q) (Some n) = kills-closed q n v

  kills_thread-closed : (q tid signal : ℕ) (v : View) → R v.node (kills_thread t q tid signal v).node
  kills_thread-closed q tid signal v = either-view _ _ _ (answers-closed (refused ESRCH) v)
      (then (send-closed v.node signal (generate_for_thread tid) (λ s. for_thread-closed v.node tid s)) (answered-closed ((send signal (generate_for_thread tid) v.node)) (pos 0)))

  pub tgkill-closed : (pid tid signal : ℤ) (v : View) → R v.node (tgkill t pid tid signal v).node
  tgkill-closed pid tid signal v = first (positive pid) (positive tid) (checked_signal signal)
    where
      first : (o d s : Option ℕ) → R v.node (elim o as (λ _. View) [ None ↦ refuses t EINVAL v | Some q ↦ elim d as (λ _. View) [ None ↦ refuses t EINVAL v | Some x ↦ elim s as (λ _. View) [ None ↦ refuses t EINVAL v | Some n ↦ kills_thread t q x n v ] ] ]).node
      first None d s = answers-closed (refused EINVAL) v
      first (Some q) None s = answers-closed (refused EINVAL) v
      first (Some q) (Some x) None = answers-closed (refused EINVAL) v
      first (Some q) (Some x) (Some n) = kills_thread-closed q x n v

  sets_action-closed : (signal act old : ℕ) (v : View) → R v.node (sets_action t signal act old v).node
  sets_action-closed signal act old v = go (old == 0) (act == 0)
    where
      q : ℕ
      q = (thread_of v.node t).process

      new : Action
      new = action_in (read_bytes v.memory act 24)

      changed : R v.node (answered t (pos 0) (drop_ignored q signal (with_action q signal new v.node)))
      changed = then (k.process v.node q (λ x. record x { actions = slice_set x.actions (signal - 1) new }) (record { heap = λ x. refl; limit = λ x. refl; instructions = λ x. refl; ended = λ x. refl })) (then (k.ignored (with_action q signal new v.node) q signal) (answered-closed ((drop_ignored q signal (with_action q signal new v.node))) (pos 0)))

      go : (b d : Bool) → R v.node (answers t (pos 0) (cond d (cond b v (store old (action_bytes (action_of (process_of v.node q) signal)) v))
          (on_node (λ node. drop_ignored q signal (with_action q signal new node)) (cond b v (store old (action_bytes (action_of (process_of v.node q) signal)) v))))).node
      go true true = answered-closed (v.node) (pos 0)
      go false true = answered-closed (v.node) (pos 0)
      go true false = changed
      go false false = changed

  pub sigaction-closed : (signal : ℤ) (act old size : ℕ) (v : View) → R v.node (sigaction t signal act old size v).node
  sigaction-closed signal act old size v = either-view _ _ _ (answers-closed (refused EINVAL) v) (either-view _ _ _ (answers-closed (refused EFAULT) v) (sets_action-closed (nat_of signal) act old v))

  sets_mask-closed : (how : ℤ) (address old : ℕ) (v : View) → R v.node (sets_mask t how address old v).node
  sets_mask-closed how address old v = go (old == 0) (address == 0)
    where
      masked : Thread → Thread
      masked y = record y { mask = new_mask how (number_of (read_bytes v.memory address 8)) y.mask }

      changed : R v.node (answered t (pos 0) (change_thread t masked v.node))
      changed = then (k.quiet v.node t masked (record { process = λ x. refl; place = λ x. refl; does = λ x. refl })) (answered-closed ((change_thread t masked v.node)) (pos 0))

      go : (b d : Bool) → R v.node (answers t (pos 0) (cond d (cond b v (store old (little_endian 8 (thread_of v.node t).mask) v)) (on_node (change_thread t masked) (cond b v (store old (little_endian 8 (thread_of v.node t).mask) v))))).node
      go true true = answered-closed (v.node) (pos 0)
      go false true = answered-closed (v.node) (pos 0)
      go true false = changed
      go false false = changed

  pub sigprocmask-closed : (how : ℤ) (address old size : ℕ) (v : View) → R v.node (sigprocmask t how address old size v).node
  sigprocmask-closed how address old size v = either-view _ _ _ (answers-closed (refused EINVAL) v) (either-view _ _ _ (answers-closed (refused EFAULT) v) (sets_mask-closed how address old v))

  pub sigpending-closed : (address size : ℕ) (v : View) → R v.node (sigpending t address size v).node
  sigpending-closed address size v = either-view _ _ _ (answers-closed (refused EINVAL) v) (either-view _ _ _ (answers-closed (refused EFAULT) v) (answers-closed (pos 0) v))

  pub return-closed : (v : View) → R v.node (return_from_handler t v).node
  return-closed v =
      let bytes = read_bytes v.memory (reg (thread_of v.node t).regs 2) frame_size in
      either-view _ _ _ (k.moves v.node (λ y. record y { regs = restored bytes; mask = mask_in bytes; does = Ready }) (record { process = λ x. refl; place = λ x. refl; plain = λ x. refl }))
      (raised-closed v.node 11)

  -- ---- wait4
  noted-closed : (child : ℕ) (v : View) → R v.node (noted_waited child v).node
  noted-closed child v = k.process v.node child (λ x. record x { waited = true }) (record { heap = λ x. refl; limit = λ x. refl; instructions = λ x. refl; ended = λ x. refl })

  tells-closed : (child status : ℕ) (v : View) → R v.node (tells_end t child status v).node
  tells-closed child status v = go (status == 0) (may_access v.memory Write status 4)
    where
      told : View
      told = answers t (pos child) (noted_waited child v)

      done : R v.node told.node
      done = then (noted-closed child v) (answered-closed ((noted_waited child v).node) (pos child))

      go : (b d : Bool) → R v.node (cond b told (cond d (store status (little_endian 4 (status_of_life (process_of v.node child).life)) told) (refuses t EFAULT (noted_waited child v)))).node
      go true d = done
      go false true = done
      go false false = then (noted-closed child v) (answered-closed ((noted_waited child v).node) (refused EFAULT))

  pub wait_over-closed : (pid : ℤ) (status : ℕ) (v : View) → R v.node (wait_over t pid status v).node
  wait_over-closed pid status v = go (ended_child v.node (thread_of v.node t).process pid)
    where
      go : (o : Option ℕ) → R v.node (waits_for t pid status v o).node
      go None = answers-closed (refused ECHILD) v
      go (Some child) = tells-closed child status v

  pub wait4-closed : (pid : ℤ) (status options rusage : ℕ) (v : View) → R v.node (wait4 t pid status options rusage v).node
  wait4-closed pid status options rusage v = either-view _ _ _ (answers-closed (refused EINVAL) v) (either-view _ _ _ (answers-closed (refused ENOSYS) v) (either-view _ _ _ (wait_over-closed pid status v)
      (either-view _ _ _ (answers-closed (pos 0) v) (does-closed v.node (InWait pid status) refl))))

  -- ---- all of them
  pub calls-closed : (call : LocalCall) (a : ℕ → ℕ) (v : View) → Q v.node (one_of_calls t call a v).node
  calls-closed Calls.Exit a v = k.lift v.node _ (exits-closed (exit_code (a 0)) v)
  calls-closed Calls.ExitGroup a v = k.lift v.node _ (exits_group-closed (exit_code (a 0)) v)
  calls-closed Calls.SetTidAddress a v = k.lift v.node _ (sets_clear_address-closed (a 0) v)
  calls-closed Calls.Futex a v = futex-closed (a 0) (a 1) (a 2) (a 3) v
  calls-closed Calls.SetRobustList a v = k.lift v.node _ (sets_robust_list-closed (a 1) v)
  calls-closed Calls.SchedYield a v = k.lift v.node _ (answers-closed (pos 0) v)
  calls-closed Calls.Kill a v = k.lift v.node _ (kill-closed (int_argument (a 0)) (int_argument (a 1)) v)
  calls-closed Calls.Tgkill a v = k.lift v.node _ (tgkill-closed (int_argument (a 0)) (int_argument (a 1)) (int_argument (a 2)) v)
  calls-closed Calls.RtSigaction a v = k.lift v.node _ (sigaction-closed (int_argument (a 0)) (a 1) (a 2) (a 3) v)
  calls-closed Calls.RtSigprocmask a v = k.lift v.node _ (sigprocmask-closed (int_argument (a 0)) (a 1) (a 2) (a 3) v)
  calls-closed Calls.RtSigpending a v = k.lift v.node _ (sigpending-closed (a 0) (a 1) v)
  calls-closed Calls.RtSigreturn a v = k.lift v.node _ (return-closed v)
  calls-closed Calls.Getpid a v = k.lift v.node _ (answers-closed (pos (thread_of v.node t).process) v)
  calls-closed Calls.Getppid a v = k.lift v.node _ (answers-closed (pos (parent_number v.node (thread_of v.node t).process)) v)
  calls-closed Calls.Gettid a v = k.lift v.node _ (answers-closed (pos t) v)
  calls-closed Calls.Wait4 a v = k.lift v.node _ (wait4-closed (int_argument (a 0)) (a 1) (a 2 % 2 ^ 32) (a 3) v)

  -- ---- deliveries
  after_reset-closed : (node : Node) (q signal : ℕ) (a : Action) → R node (after_reset q signal a node)
  after_reset-closed node q signal a = either (SA_RESETHAND a)
      (then (k.process node q (λ x. record x { actions = slice_set x.actions (signal - 1) (record a { handler = 0 }) }) (record { heap = λ x. refl; limit = λ x. refl; instructions = λ x. refl; ended = λ x. refl })) (k.ignored (with_action q signal (record a { handler = 0 }) node) q signal)) (k.same node)

  enter-closed : (signal : ℕ) (a : Action) (v : View) → R v.node (enter_handler t signal a v).node
  enter-closed signal a v = go (may_access v.memory Write sp frame_size)
    where
      x : Thread
      x = thread_of v.node t

      r : Regs
      r = interrupted_regs x.back a x.regs

      sp : ℕ
      sp = frame_address r

      entered : Thread → Thread
      entered y = record y { regs = handler_regs a signal sp r; mask = handler_mask a signal y.mask; back = false }

      stays : Thread → Thread
      stays y = record y { regs = r; back = false }

      go : (b : Bool) → R v.node (cond b (store sp (signal_frame r x.mask) (on_node (λ node. after_reset x.process signal a (change_thread t entered node)) v)) (on_node (λ node. change_process x.process (dies (Killed 11)) (change_thread t stays node)) v)).node
      go true = then (k.quiet v.node t entered (record { process = λ y. refl; place = λ y. refl; does = λ y. refl })) (after_reset-closed (change_thread t entered v.node) x.process signal a)
      go false = then (k.quiet v.node t stays (record { process = λ y. refl; place = λ y. refl; does = λ y. refl })) (dies-closed (change_thread t stays v.node) x.process (Killed 11))

  deliver_signal-closed : (signal : ℕ) (v : View) → R v.node (deliver_signal t signal v).node
  deliver_signal-closed signal v = go (a.handler == 0)
    where
      q : ℕ
      q = (thread_of v.node t).process

      a : Action
      a = action_of (process_of v.node q) signal

      killed : Thread → Thread
      killed y = record y { regs = interrupted_regs y.back a y.regs; back = false }

      go : (b : Bool) → R v.node (cond b (on_node (λ node. change_process q (dies (Killed signal)) (change_thread t killed node)) v) (enter_handler t signal a v)).node
      go true = then (k.quiet v.node t killed (record { process = λ y. refl; place = λ y. refl; does = λ y. refl })) (dies-closed (change_thread t killed v.node) q (Killed signal))
      go false = enter-closed signal a v

  pub deliver-closed : (v : View) → R v.node (deliver t v).node
  deliver-closed v = go (next_signal v.node t)
    where
      go : (o : Option ℕ) → R v.node (elim o as (λ _. View) [ None ↦ v | Some signal ↦ deliver_signal t signal (on_node (taken t signal) v) ]).node
      go None = k.same v.node
      go (Some signal) = then (taken-closed v.node t signal) (deliver_signal-closed signal (on_node (taken t signal) v))
