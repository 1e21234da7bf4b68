-- What a trap keeps of the node, whatever it comes to.
use Rattle.file_model.specs.Errno.{EAGAIN, EINVAL, ENOMEM, ENOSYS}
use Rattle.file_model.specs.Paths.{child}
use Rattle.hybrid_laws.proofs.node.EventKeeps.{past_ecall-keeps, with_child-keeps}
use Rattle.hybrid_laws.proofs.node.Keeps.{Keeps, is_pinned}
use Rattle.hybrid_laws.proofs.node.LocalKeeps.{SleepersFree, answers-keeps, clones-keeps, either-view, exits-keeps, exits_group-keeps, futex-keeps, kill-keeps, return-keeps, sets_clear_address-keeps, sets_robust_list-keeps, sigaction-keeps, sigpending-keeps, sigprocmask-keeps, tgkill-keeps, wait4-keeps}
use Rattle.hybrid_laws.proofs.node.Primitives.{answered-free, at-change, does-free, raised-free, same-node, then}
use Rattle.hybrid_laws.proofs.node.Threads.{IsThread, idle-one, thread-is}
use Rattle.hybrid_laws.specs.OneProcess.{NodeHolds}
use Rattle.hybrid_model.specs.Globals.{Sleeping}
use Rattle.hybrid_model.specs.Tallies.{Each}
use Rattle.isa_model.specs.Memory.{may_access}
use Rattle.isa_model.specs.declared.stops.Stop.TheVariants.{Break, Ecall, Illegal, Misaligned, On, Fault as StopFault}
use Rattle.isa_model.specs.declared.stops.Stop.{Stop}
use Rattle.kernel_model.specs.Calls.{clone_call, local_call, one_of_calls}
use Rattle.kernel_model.specs.CloneCalls.{CallDone, are_fork_flags, clone, clone_or_fork, forks, parent_number, with_child}
use Rattle.kernel_model.specs.LocalCalls.{answers, exit_code, refuses}
use Rattle.kernel_model.specs.MemoryCalls.{Reply as DecidedReply, Round as DecidedRound, Decision, Now, decide}
use Rattle.kernel_model.specs.Nodes.{Node, Sleeper, Thread, answered, is_asleep, most_processes, process_of, set_pc, stop_in, thread_of}
use Rattle.kernel_model.specs.Signals.{View, on_node, raised, signal_of_stop, store}
use Rattle.kernel_model.specs.Traps.{Begins, Changes, Forks, Trapped, arguments_of, call_named, called, cloned, decided, past_ecall, trap, trap_of_stop, Done}
use Rattle.kernel_model.specs.declared.Does.TheVariants.{Asleep, Called, InVm, InWait, Ready, Stopped}
use Rattle.kernel_model.specs.declared.Does.{Does}
use Rattle.mck_word.specs.Maps.{at, change, count}
use Rattle.mck_word.specs.Words.{has_bit, int_argument, little_endian, refused}
use Rattle.mck_word.specs.declared.Access.TheVariants.{Write}
use Rattle.mck_word.specs.declared.Regs.{Regs}
use Rattle.std.proofs.Common.{ap, arith, refl, sym, ◌∙◌}
use Rattle.std.proofs.lemmas.Bool.Decides.{nat_tests}
use Rattle.std.specs.Prelude.{Bool, List, None, Option, Some, [], cond, false, get_or, length, nat_le, nat_lt, option_map, pos, slice_get, suc, true, ℕ, ◌%◌, ◌+◌, ◌==◌, ◌^◌, ◌||◌, ◌∷◌, ◌≡◌, ◌≢◌}
use Rattle.system_calls.specs.declared.LocalCall.TheVariants as Calls
use Rattle.system_calls.specs.declared.LocalCall.{LocalCall}
use Rattle.system_calls.specs.declared.SystemCall.TheVariants.{Clone, File, Local, Memory}
use Rattle.system_calls.specs.declared.SystemCall.{SystemCall}

pub next-new : (node : Node) → NodeHolds node → at node.threads node.next_number ≡ None
next-new node h = go (at node.threads node.next_number) refl
  where
    go : (o : Option Thread) → at node.threads node.next_number ≡ o → o ≡ None
    go None e = refl
    go (Some x) e = absurd (let l = h.below node.next_number x e in omega (arith, l))

-- the thread of a trap is free, and so are those that sleep
abbrev pub trap_free : ℕ → Node → ℕ → Bool
trap_free t node u = u == t || is_asleep (thread_of node u).does

pub each-got : {A : Type 0} (P : A → Type 0) (xs : List A) → ((k : ℕ) (x : A) → slice_get xs k ≡ Some x → P x) → Each P xs
each-got P [] f = tt
each-got P (x ∷ xs) f = (f 0 x refl, each-got P xs (λ k y e. f (suc k) y e))

pub sleepers-free : (t : ℕ) (node : Node) → Sleeping node → SleepersFree (trap_free t node) node
sleepers-free t node h = each-got (λ (s : Sleeper). trap_free t node s.thread ≡ true) node.sleepers (λ k s e.
    let x = h.asleep k s e in
    let a : is_asleep (thread_of node s.thread).does ≡ true = ap (λ (z : Thread). is_asleep z.does) (thread-is node s.thread x.0 x.1) ∙ ap is_asleep x.2 in
    or-right (s.thread == t) (is_asleep (thread_of node s.thread).does) a)
  where
    or-right : (a b : Bool) → b ≡ true → (a || b) ≡ true
    or-right true b e = refl
    or-right false b e = e

asleep-free : (d : Does) → is_asleep d ≡ true → is_pinned d ≡ false
asleep-free (Asleep a) e = refl
asleep-free Ready e = refl
asleep-free (Stopped s) e = refl
asleep-free (InWait n s) e = refl
asleep-free Called e = absurd (grind (arith, e))
asleep-free (InVm c) e = absurd (grind (arith, e))

pub trap-idle : (p t : ℕ) (node : Node) (x : Thread) → IsThread node t x → is_pinned x.does ≡ false → (u : ℕ) (y : Thread) → trap_free t node u ≡ true → at node.threads u ≡ Some y → y.process ≡ p → is_pinned y.does ≡ false
trap-idle p t node x there free u y e f own = go (u == t) refl e
  where
    go : (b : Bool) → (u == t) ≡ b → (b || is_asleep (thread_of node u).does) ≡ true → is_pinned y.does ≡ false
    go true g k = idle-one p t node x there free u y g f own
    go false g k = asleep-free y.does (ap (λ (z : Thread). is_asleep z.does) (sym (thread-is node u y f)) ∙ k)

module _ (p : ℕ) (free : ℕ → Bool) where
  -- the node that a trap leaves
  abbrev pub TrappedKeeps : Node → Trapped → Type 0
  TrappedKeeps node (Done v) = Keeps p free node v.node
  TrappedKeeps node (Forks v child stores) = p ≢ child → Keeps p free node v.node
  TrappedKeeps node (Begins new progress) = Keeps p free node new
  TrappedKeeps node (Changes new change) = Keeps p free node new

  module _ (t : ℕ) (e : free t ≡ true) where
    clone-keeps : (flags stack parent_tid tls child_tid : ℕ) (v : View) → at v.node.threads v.node.next_number ≡ None → Keeps p free v.node (clone t flags stack parent_tid tls child_tid v).node
    clone-keeps flags stack parent_tid tls child_tid v none = either-view p free _ _ _ (answers-keeps p free t e (refused EINVAL) v) (either-view p free _ _ _ (answers-keeps p free t e (refused EAGAIN) v)
        (clones-keeps p free t e flags stack parent_tid tls child_tid v none))

    forks-keeps : (flags stack parent_tid tls child_tid : ℕ) (v : View) → at v.node.threads v.node.next_number ≡ None → TrappedKeeps v.node (cloned (forks t flags stack parent_tid tls child_tid v))
    forks-keeps flags stack parent_tid tls child_tid v none other = go (has_bit 20 flags) (may_access v.memory Write parent_tid (length (little_endian 4 v.node.next_number)))
      where
        n : ℕ
        n = v.node.next_number

        done : Keeps p free v.node (answered t (pos n) (with_child t n flags stack tls child_tid v.node))
        done = then p free (with_child-keeps p free v.node t n flags stack tls child_tid other none) (answered-free p free (with_child t n flags stack tls child_tid v.node) t (pos n) e)

        go : (b c : Bool) → Keeps p free v.node (answers t (pos n) (on_node (with_child t n flags stack tls child_tid) (cond b (cond c (store parent_tid (little_endian 4 n) v) v) v))).node
        go true true = done
        go true false = done
        go false c = done

    clone_or_fork-keeps : (frames flags stack parent_tid tls child_tid : ℕ) (v : View) → at v.node.threads v.node.next_number ≡ None → TrappedKeeps v.node (cloned (clone_or_fork t frames flags stack parent_tid tls child_tid v))
    clone_or_fork-keeps frames flags stack parent_tid tls child_tid v none = go (are_fork_flags flags) (nat_le most_processes (count v.node.processes)) (nat_lt frames (count v.memory))
      where
        go : (b c d : Bool) → TrappedKeeps v.node (cloned (cond b (cond c (CallDone (refuses t EAGAIN v)) (cond d (CallDone (refuses t ENOMEM v)) (forks t flags stack parent_tid tls child_tid v))) (CallDone (clone t flags stack parent_tid tls child_tid v))))
        go true true d = answers-keeps p free t e (refused EAGAIN) v
        go true false true = answers-keeps p free t e (refused ENOMEM) v
        go true false false = forks-keeps flags stack parent_tid tls child_tid v none
        go false c d = clone-keeps flags stack parent_tid tls child_tid v none

    calls-keeps : (call : LocalCall) (a : ℕ → ℕ) (v : View) → SleepersFree free v.node → Keeps p free v.node (one_of_calls t call a v).node
    calls-keeps Calls.Exit a v h = exits-keeps p free t e (exit_code (a 0)) v h
    calls-keeps Calls.ExitGroup a v h = exits_group-keeps p free t e (exit_code (a 0)) v
    calls-keeps Calls.SetTidAddress a v h = sets_clear_address-keeps p free t e (a 0) v
    calls-keeps Calls.Futex a v h = futex-keeps p free t e (a 0) (a 1) (a 2) (a 3) v h
    calls-keeps Calls.SetRobustList a v h = sets_robust_list-keeps p free t e (a 1) v
    calls-keeps Calls.SchedYield a v h = answers-keeps p free t e (pos 0) v
    calls-keeps Calls.Kill a v h = kill-keeps p free t e (int_argument (a 0)) (int_argument (a 1)) v
    calls-keeps Calls.Tgkill a v h = tgkill-keeps p free t e (int_argument (a 0)) (int_argument (a 1)) (int_argument (a 2)) v
    calls-keeps Calls.RtSigaction a v h = sigaction-keeps p free t e (int_argument (a 0)) (a 1) (a 2) (a 3) v
    calls-keeps Calls.RtSigprocmask a v h = sigprocmask-keeps p free t e (int_argument (a 0)) (a 1) (a 2) (a 3) v
    calls-keeps Calls.RtSigpending a v h = sigpending-keeps p free t e (a 0) (a 1) v
    calls-keeps Calls.RtSigreturn a v h = return-keeps p free t e v
    calls-keeps Calls.Getpid a v h = answers-keeps p free t e (pos (thread_of v.node t).process) v
    calls-keeps Calls.Getppid a v h = answers-keeps p free t e (pos (parent_number v.node (thread_of v.node t).process)) v
    calls-keeps Calls.Gettid a v h = answers-keeps p free t e (pos t) v
    calls-keeps Calls.Wait4 a v h = wait4-keeps p free t e (int_argument (a 0)) (a 1) (a 2 % 2 ^ 32) (a 3) v

    local-keeps : (call : LocalCall) (arguments : List ℕ) (v : View) → SleepersFree free v.node → Keeps p free v.node (local_call t call arguments v).node
    unfolding local_call
    local-keeps call arguments v h = calls-keeps call (λ k. get_or arguments k 0) v h

    clone_call-keeps : (frames : ℕ) (arguments : List ℕ) (v : View) → at v.node.threads v.node.next_number ≡ None → TrappedKeeps v.node (cloned (clone_call t frames arguments v))
    unfolding clone_call
    clone_call-keeps frames arguments v none = clone_or_fork-keeps frames (get_or arguments 0 0) (get_or arguments 1 0) (get_or arguments 2 0) (get_or arguments 3 0) (get_or arguments 4 0) v none

    decided-keeps : (v : View) (d : Decision) → TrappedKeeps v.node (decided t v d)
    decided-keeps v (DecidedReply answer) = answers-keeps p free t e answer v
    decided-keeps v (Now change) = same-node p free v.node
    decided-keeps v (DecidedRound change) = does-free p free v.node t (InVm change) e refl

    called-keeps : (frames : ℕ) (r : Regs) (v : View) → SleepersFree free v.node → at v.node.threads v.node.next_number ≡ None → (o : Option SystemCall) → TrappedKeeps v.node (called t frames r v o)
    called-keeps frames r v h none None = answers-keeps p free t e (refused ENOSYS) v
    called-keeps frames r v h none (Some Clone) = clone_call-keeps frames (arguments_of r) v none
    called-keeps frames r v h none (Some (Local call)) = local-keeps call (arguments_of r) v h
    called-keeps frames r v h none (Some (Memory call)) = decided-keeps v (decide (process_of v.node (thread_of v.node t).process) v.memory frames call (arguments_of r))
    called-keeps frames r v h none (Some (File call)) = same-node p free v.node

    trapped-then : (a b : Node) (x : Trapped) → Keeps p free a b → TrappedKeeps b x → TrappedKeeps a x
    trapped-then a b (Done v) k l = then p free k l
    trapped-then a b (Forks v child stores) k l = λ n. then p free k (l n)
    trapped-then a b (Begins new progress) k l = then p free k l
    trapped-then a b (Changes new change) k l = then p free k l

    still-new : (v : View) → at v.node.threads v.node.next_number ≡ None → at (past_ecall t v).node.threads (past_ecall t v).node.next_number ≡ None
    still-new v none = at-change v.node.threads t (λ (x : Thread). record x { regs = set_pc (x.regs.pc + 4) x.regs }) v.node.next_number ∙ go (v.node.next_number == t) refl
      where
        go : (b : Bool) → (v.node.next_number == t) ≡ b → cond b (option_map (λ (x : Thread). record x { regs = set_pc (x.regs.pc + 4) x.regs }) (at v.node.threads t)) (at v.node.threads v.node.next_number) ≡ None
        go true f = let g : v.node.next_number ≡ t = grind (arith, nat_tests, f) in let z : at v.node.threads t ≡ None = ap (at v.node.threads) (sym g) ∙ none in rw z refl
        go false f = none

    pub trap-keeps : (frames : ℕ) (v : View) → SleepersFree free v.node → at v.node.threads v.node.next_number ≡ None → TrappedKeeps v.node (trap t frames v)
    unfolding trap
    trap-keeps frames v h none = go (stop_in (thread_of v.node t).does)
      where
        raise : (stop : Stop) → Keeps p free v.node (raised t (signal_of_stop stop) v.node)
        raise stop = raised-free p free v.node t (signal_of_stop stop) e

        go : (o : Option Stop) → TrappedKeeps v.node (trap_of_stop t frames v o)
        go None = same-node p free v.node
        go (Some Ecall) =
            let r = (thread_of v.node t).regs in
            trapped-then v.node (past_ecall t v).node (called t frames r (past_ecall t v) (call_named r)) (past_ecall-keeps p free v.node t)
            (called-keeps frames r (past_ecall t v) h (still-new v none) (call_named r))
        go (Some On) = raise On
        go (Some Break) = raise Break
        go (Some Illegal) = raise Illegal
        go (Some Misaligned) = raise Misaligned
        go (Some (StopFault l)) = raise (StopFault l)
