-- What each local call keeps of the node, where the caller is free and so are the sleepers.
use Rattle.file_model.specs.Errno.{EAGAIN, ECHILD, EFAULT, EINVAL, ENOSYS, ESRCH}
use Rattle.hybrid_laws.proofs.node.Keeps.{Keeps, Keeps-same}
use Rattle.hybrid_laws.proofs.node.Primitives.{answered-free, change-free, change-heap, change-quiet, dies-keeps, does-free, drop_ignored-keeps, either, for_process-keeps, for_thread-keeps, put-new, raised-free, same-node, then, with_action-keeps, without-free, woken-free}
use Rattle.hybrid_model.specs.Tallies.{Each}
use Rattle.isa_model.specs.Memory.{may_access, read_bytes}
use Rattle.isa_model.specs.Registers.{reg}
use Rattle.kernel_model.specs.CloneCalls.{cloned_thread, clones, ended_child, noted_waited, tells_end, wait4, wait_over, waits_for, with_thread, status_of_life}
use Rattle.kernel_model.specs.LocalCalls.{answers, clear_word, code_of, dies_without_threads, exits, exits_group, falls_asleep, futex, futex_wait, futex_wake, is_waiter, note_first_code, sets_clear_address, sets_robust_list, waiters, wake, wake_count, refuses}
use Rattle.kernel_model.specs.Nodes.{Node, Sleeper, Thread, action_of, answered, change_thread, dies, process_of, set_does, thread_of, threads_of, without_thread}
use Rattle.kernel_model.specs.SignalCalls.{action_bytes, action_in, kill, kills, kills_thread, nat_of, new_mask, send, sets_action, sets_mask, sigaction, sigpending, sigprocmask, tgkill, checked_signal, positive}
use Rattle.kernel_model.specs.Signals.{View, drop_ignored, frame_size, generate_for_process, generate_for_thread, mask_in, on_node, restored, return_from_handler, store, with_action, try_store}
use Rattle.kernel_model.specs.declared.Action.{Action}
use Rattle.kernel_model.specs.declared.Does.TheVariants.{Asleep, InWait, Ready}
use Rattle.mck_word.specs.Lists.{without}
use Rattle.mck_word.specs.Maps.{at}
use Rattle.mck_word.specs.Words.{has_bit, int_argument, little_endian, refused, number_of}
use Rattle.mck_word.specs.declared.Access.TheVariants.{Write}
use Rattle.mck_word.specs.declared.End.TheVariants.{Exit}
use Rattle.std.proofs.Common.{arith, refl, subst, sym}
use Rattle.std.specs.Prelude.{Bool, List, None, Option, Some, [], cond, false, filter, length, min, pos, suc, take, true, zero, ℕ, ℤ, ◌&&◌, ◌++◌, ◌==◌, ◌∷◌, ◌≡◌}

pub Each-take : {A : Type 0} (P : A → Type 0) (n : ℕ) (xs : List A) → Each P xs → Each P (take n xs)
Each-take P zero [] h = tt
Each-take P zero (x ∷ xs) h = tt
Each-take P (suc n) [] h = tt
Each-take P (suc n) (x ∷ xs) h = (h.0, Each-take P n xs h.1)

pub Each-filter : {A : Type 0} (P : A → Type 0) (test : A → Bool) (xs : List A) → Each P xs → Each P (filter test xs)
Each-filter P test [] h = tt
Each-filter P test (x ∷ xs) h = go (test x) (Each-filter P test xs h.1)
  where
    go : (b : Bool) → Each P (filter test xs) → Each P (cond b (x ∷ filter test xs) (filter test xs))
    go true k = (h.0, k)
    go false k = k

-- the sleepers' threads are free
abbrev pub SleepersFree : (ℕ → Bool) → Node → Type 0
SleepersFree free node = Each (λ (s : Sleeper). free s.thread ≡ true) node.sleepers

module _ (p : ℕ) (free : ℕ → Bool) where
  pub either-view : {a : Node} (b : Bool) (v w : View) → Keeps p free a v.node → Keeps p free a w.node → Keeps p free a (cond b v w).node
  either-view true v w k l = k
  either-view false v w k l = l

  pub wake-keeps : (node : Node) (process address n : ℕ) → SleepersFree free node → Keeps p free node (wake process address n node)
  wake-keeps node process address n h = then p free
      (Keeps-same p free node (record node { sleepers = without (is_waiter (take n (waiters node process address))) node.sleepers }) refl refl)
      (woken-free p free (take n (waiters node process address)) (record node { sleepers = without (is_waiter (take n (waiters node process address))) node.sleepers })
      (Each-take (λ (s : Sleeper). free s.thread ≡ true) n (waiters node process address) (Each-filter (λ (s : Sleeper). free s.thread ≡ true) (λ s. s.process == process && s.address == address) node.sleepers h)))

  -- ---- the caller
  module _ (t : ℕ) (e : free t ≡ true) where
    pub answers-keeps : (a : ℤ) (v : View) → Keeps p free v.node (answers t a v).node
    answers-keeps a v = answered-free p free v.node t a e

    -- ---- exit and exit_group
    clear-keeps : (x : Thread) (v : View) → SleepersFree free v.node → Keeps p free v.node (clear_word x v).node
    clear-keeps x v h = go (x.clear_address == 0) (may_access v.memory Write x.clear_address (length (little_endian 4 0)))
      where
        stored : View
        stored = store x.clear_address (little_endian 4 0) v

        go : (b d : Bool) → Keeps p free v.node (cond b v (on_node (wake x.process x.clear_address 1) (cond d (store x.clear_address (little_endian 4 0) v) v))).node
        go true d = same-node p free v.node
        go false true = wake-keeps v.node x.process x.clear_address 1 h
        go false false = wake-keeps v.node x.process x.clear_address 1 h

    note-keeps : (node : Node) (x : Thread) (code : ℕ) → Keeps p free node (note_first_code t x code node)
    note-keeps node x code = either p free (t == x.process) (change-heap p free node x.process (λ y. record y { first_code = Some code }) (λ y. refl)) (same-node p free node)

    dies_without-keeps : (node : Node) (q : ℕ) → Keeps p free node (dies_without_threads q node)
    dies_without-keeps node q = either p free (length (threads_of node q) == 0) (change-heap p free node q (λ x. dies (Exit (code_of x)) x) (λ x. refl)) (same-node p free node)

    pub exits-keeps : (code : ℕ) (v : View) → SleepersFree free v.node → Keeps p free v.node (exits t code v).node
    exits-keeps code v h =
        let x = thread_of v.node t in
        let a = (clear_word x v).node in
        then p free (clear-keeps x v h) (then p free (note-keeps a x code) (then p free (without-free p free (note_first_code t x code a) t e) (dies_without-keeps (without_thread t (note_first_code t x code a)) x.process)))

    pub exits_group-keeps : (code : ℕ) (v : View) → Keeps p free v.node (exits_group t code v).node
    exits_group-keeps code v = then p free (does-free p free v.node t Ready e refl) (dies-keeps p free (set_does t Ready v.node) (thread_of v.node t).process (Exit code))

    pub sets_clear_address-keeps : (a : ℕ) (v : View) → Keeps p free v.node (sets_clear_address t a v).node
    sets_clear_address-keeps a v = then p free
        (change-quiet p free v.node t (λ x. record x { clear_address = a }) (record { process = λ x. refl; place = λ x. refl; does = λ x. refl }))
        (answered-free p free (change_thread t (λ (x : Thread). record x { clear_address = a }) v.node) t (pos t) e)

    pub sets_robust_list-keeps : (len : ℕ) (v : View) → Keeps p free v.node (sets_robust_list t len v).node
    sets_robust_list-keeps len v = either-view _ _ _ (answers-keeps (pos 0) v) (answers-keeps (refused EINVAL) v)

    -- ---- futex
    falls-keeps : (node : Node) (address : ℕ) → Keeps p free node (falls_asleep t address node)
    falls-keeps node address =
        let b : Node = record node { sleepers = node.sleepers ++ record { process = (thread_of node t).process; address = address; thread = t } ∷ [] } in
        then p free (Keeps-same p free node b refl refl) (does-free p free b t (Asleep address) e refl)

    futex_wait-keeps : (address val timeout : ℕ) (v : View) → Keeps p free v.node (futex_wait t address val timeout v).node
    futex_wait-keeps address val timeout v = either-view _ _ _ (answers-keeps (refused EINVAL) v) (either-view _ _ _ (answers-keeps (refused ENOSYS) v) (either-view _ _ _ (answers-keeps (refused EFAULT) v) (either-view _ _ _ (answers-keeps (refused EAGAIN) v) (falls-keeps v.node address))))

    futex_wake-keeps : (address : ℕ) (val : ℤ) (v : View) → SleepersFree free v.node → Keeps p free v.node (futex_wake t address val v).node
    futex_wake-keeps address val v h =
        let q = (thread_of v.node t).process in
        either-view _ _ _ (answers-keeps (refused EINVAL) v)
        (then p free (wake-keeps v.node q address (wake_count val) h) (answered-free p free (wake q address (wake_count val) v.node) t (pos (min (wake_count val) (length (waiters v.node q address)))) e))

    pub futex-keeps : (address op val timeout : ℕ) (v : View) → SleepersFree free v.node → Keeps p free v.node (futex t address op val timeout v).node
    futex-keeps address op val timeout v h = either-view _ _ _ (futex_wait-keeps address val timeout v) (either-view _ _ _ (futex_wake-keeps address (int_argument val) v h) (answers-keeps (refused ENOSYS) v))

    -- ---- signals
    send-keeps : (node : Node) (signal : ℕ) (generate : ℕ → Node → Node) → ((s : ℕ) → Keeps p free node (generate s node)) → Keeps p free node (send signal generate node)
    send-keeps node signal generate k = either p free (signal == 0) (same-node p free node) (k signal)

    kills-keeps : (q signal : ℕ) (v : View) → Keeps p free v.node (kills t q signal v).node
    kills-keeps q signal v = either-view _ _ _ (answers-keeps (refused ESRCH) v)
        (then p free (send-keeps v.node signal (generate_for_process q) (λ s. for_process-keeps p free v.node q s)) (answered-free p free (send signal (generate_for_process q) v.node) t (pos 0) e))

    pub kill-keeps : (pid signal : ℤ) (v : View) → Keeps p free v.node (kill t pid signal v).node
    kill-keeps pid signal v = first (positive pid) (checked_signal signal)
      where
        first : (o s : Option ℕ) → Keeps p free v.node (elim o as (λ _. View) [ None ↦ refuses t EINVAL v | Some q ↦ elim s as (λ _. View) [ None ↦ refuses t EINVAL v | Some n ↦ kills t q n v ] ]).node
        first None s = answers-keeps (refused EINVAL) v
        first (Some q) None = answers-keeps (refused EINVAL) v
        first (Some q) (Some n) = kills-keeps q n v

    kills_thread-keeps : (q tid signal : ℕ) (v : View) → Keeps p free v.node (kills_thread t q tid signal v).node
    kills_thread-keeps q tid signal v = either-view _ _ _ (answers-keeps (refused ESRCH) v)
        (then p free (send-keeps v.node signal (generate_for_thread tid) (λ s. for_thread-keeps p free v.node tid s)) (answered-free p free (send signal (generate_for_thread tid) v.node) t (pos 0) e))

    pub tgkill-keeps : (pid tid signal : ℤ) (v : View) → Keeps p free v.node (tgkill t pid tid signal v).node
    tgkill-keeps pid tid signal v = first (positive pid) (positive tid) (checked_signal signal)
      where
        first : (o d s : Option ℕ) → Keeps p free v.node (elim o as (λ _. View) [ None ↦ refuses t EINVAL v | Some q ↦ elim d as (λ _. View) [ None ↦ refuses t EINVAL v | Some x ↦ elim s as (λ _. View) [ None ↦ refuses t EINVAL v | Some n ↦ kills_thread t q x n v ] ] ]).node
        first None d s = answers-keeps (refused EINVAL) v
        first (Some q) None s = answers-keeps (refused EINVAL) v
        first (Some q) (Some x) None = answers-keeps (refused EINVAL) v
        first (Some q) (Some x) (Some n) = kills_thread-keeps q x n v

    sets_action-keeps : (signal act old : ℕ) (v : View) → Keeps p free v.node (sets_action t signal act old v).node
    sets_action-keeps signal act old v = go (old == 0) (act == 0)
      where
        q : ℕ
        q = (thread_of v.node t).process

        new : Action
        new = action_in (read_bytes v.memory act 24)

        changed : Keeps p free v.node (answered t (pos 0) (drop_ignored q signal (with_action q signal new v.node)))
        changed = then p free (with_action-keeps p free v.node q signal new) (then p free (drop_ignored-keeps p free (with_action q signal new v.node) q signal) (answered-free p free (drop_ignored q signal (with_action q signal new v.node)) t (pos 0) e))

        go : (b d : Bool) → Keeps p free v.node (answers t (pos 0) (cond d (cond b v (store old (action_bytes (action_of (process_of v.node q) signal)) v))
            (on_node (λ node. drop_ignored q signal (with_action q signal new node)) (cond b v (store old (action_bytes (action_of (process_of v.node q) signal)) v))))).node
        go true true = answered-free p free v.node t (pos 0) e
        go false true = answered-free p free v.node t (pos 0) e
        go true false = changed
        go false false = changed

    pub sigaction-keeps : (signal : ℤ) (act old size : ℕ) (v : View) → Keeps p free v.node (sigaction t signal act old size v).node
    sigaction-keeps signal act old size v = either-view _ _ _ (answers-keeps (refused EINVAL) v) (either-view _ _ _ (answers-keeps (refused EFAULT) v) (sets_action-keeps (nat_of signal) act old v))

    sets_mask-keeps : (how : ℤ) (address old : ℕ) (v : View) → Keeps p free v.node (sets_mask t how address old v).node
    sets_mask-keeps how address old v = go (old == 0) (address == 0)
      where
        masked : Thread → Thread
        masked y = record y { mask = new_mask how (number_of (read_bytes v.memory address 8)) y.mask }

        changed : Keeps p free v.node (answered t (pos 0) (change_thread t masked v.node))
        changed = then p free (change-quiet p free v.node t masked (record { process = λ x. refl; place = λ x. refl; does = λ x. refl })) (answered-free p free (change_thread t masked v.node) t (pos 0) e)

        go : (b d : Bool) → Keeps p free v.node (answers t (pos 0) (cond d (cond b v (store old (little_endian 8 (thread_of v.node t).mask) v)) (on_node (change_thread t masked) (cond b v (store old (little_endian 8 (thread_of v.node t).mask) v))))).node
        go true true = answered-free p free v.node t (pos 0) e
        go false true = answered-free p free v.node t (pos 0) e
        go true false = changed
        go false false = changed

    pub sigprocmask-keeps : (how : ℤ) (address old size : ℕ) (v : View) → Keeps p free v.node (sigprocmask t how address old size v).node
    sigprocmask-keeps how address old size v = either-view _ _ _ (answers-keeps (refused EINVAL) v) (either-view _ _ _ (answers-keeps (refused EFAULT) v) (sets_mask-keeps how address old v))

    pub sigpending-keeps : (address size : ℕ) (v : View) → Keeps p free v.node (sigpending t address size v).node
    sigpending-keeps address size v = either-view _ _ _ (answers-keeps (refused EINVAL) v) (either-view _ _ _ (answers-keeps (refused EFAULT) v) (answers-keeps (pos 0) v))

    pub return-keeps : (v : View) → Keeps p free v.node (return_from_handler t v).node
    return-keeps v =
        let bytes = read_bytes v.memory (reg (thread_of v.node t).regs 2) frame_size in
        either-view _ _ _ (change-free p free v.node t (λ y. record y { regs = restored bytes; mask = mask_in bytes; does = Ready }) e (record { process = λ x f k. k; called = λ x f k. absurd (grind (arith, k)) }))
        (raised-free p free v.node t 11 e)

    -- ---- wait4
    noted-keeps : (child : ℕ) (v : View) → Keeps p free v.node (noted_waited child v).node
    noted-keeps child v = change-heap p free v.node child (λ x. record x { waited = true }) (λ x. refl)

    tells-keeps : (child status : ℕ) (v : View) → Keeps p free v.node (tells_end t child status v).node
    tells-keeps child status v = go (status == 0) (may_access v.memory Write status 4)
      where
        told : View
        told = answers t (pos child) (noted_waited child v)

        done : Keeps p free v.node told.node
        done = then p free (noted-keeps child v) (answered-free p free (noted_waited child v).node t (pos child) e)

        go : (b d : Bool) → Keeps p free v.node (cond b told (cond d (store status (little_endian 4 (status_of_life (process_of v.node child).life)) told) (refuses t EFAULT (noted_waited child v)))).node
        go true d = done
        go false true = done
        go false false = then p free (noted-keeps child v) (answered-free p free (noted_waited child v).node t (refused EFAULT) e)

    pub wait_over-keeps : (pid : ℤ) (status : ℕ) (v : View) → Keeps p free v.node (wait_over t pid status v).node
    wait_over-keeps pid status v = go (ended_child v.node (thread_of v.node t).process pid)
      where
        go : (o : Option ℕ) → Keeps p free v.node (waits_for t pid status v o).node
        go None = answers-keeps (refused ECHILD) v
        go (Some child) = tells-keeps child status v

    pub wait4-keeps : (pid : ℤ) (status options rusage : ℕ) (v : View) → Keeps p free v.node (wait4 t pid status options rusage v).node
    wait4-keeps pid status options rusage v = either-view _ _ _ (answers-keeps (refused EINVAL) v) (either-view _ _ _ (answers-keeps (refused ENOSYS) v) (either-view _ _ _ (wait_over-keeps pid status v)
        (either-view _ _ _ (answers-keeps (pos 0) v) (does-free p free v.node t (InWait pid status) e refl))))

    -- ---- clone: the new thread's number is new
    pub clones-keeps : (flags stack parent_tid tls child_tid : ℕ) (v : View) → at v.node.threads v.node.next_number ≡ None → Keeps p free v.node (clones t flags stack parent_tid tls child_tid v).node
    clones-keeps flags stack parent_tid tls child_tid v none = subst (λ (m : Node). Keeps p free v.node (answered t (pos n) m)) (sym (outer (has_bit 24 flags) (may_access told.memory Write child_tid (length (little_endian 4 n))))) done
      where
        n : ℕ
        n = v.node.next_number

        x : Thread
        x = cloned_thread v.node (thread_of v.node t) flags stack tls child_tid

        done : Keeps p free v.node (answered t (pos n) (with_thread x v.node))
        done = then p free (record { threads = put-new p free v.node.threads n x none refl; heap = refl }) (answered-free p free (with_thread x v.node) t (pos n) e)

        made : View
        made = on_node (with_thread x) v

        told : View
        told = cond (has_bit 20 flags) (try_store parent_tid (little_endian 4 n) made) made

        inner : (b c : Bool) → (cond b (cond c (store parent_tid (little_endian 4 n) made) made) made).node ≡ with_thread x v.node
        inner true true = refl
        inner true false = refl
        inner false c = refl

        told-node : told.node ≡ with_thread x v.node
        told-node = inner (has_bit 20 flags) (may_access v.memory Write parent_tid (length (little_endian 4 n)))

        outer : (b c : Bool) → (cond b (cond c (store child_tid (little_endian 4 n) told) told) told).node ≡ with_thread x v.node
        outer true true = told-node
        outer true false = told-node
        outer false c = told-node
