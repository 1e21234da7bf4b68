-- A trap that is done at once: the node is sound after it, and a thread that clone makes is paid for.
use Rattle.file_model.specs.Errno.{EAGAIN, EINVAL, ENOMEM, ENOSYS}
use Rattle.file_model.specs.Paths.{child}
use Rattle.hybrid_laws.proofs.calls.Closed.{answered-closed, calls-closed, does-closed, past-closed, raised-closed}
use Rattle.hybrid_laws.proofs.node.Goes.{GoesAwake, GoesOn, IsAwake, goes-closed, goes-same}
use Rattle.hybrid_laws.proofs.node.Sound.{Sound, is-awake, sleep-once, sleepers-are, sleeping-of}
use Rattle.hybrid_laws.proofs.node.Threads.{thread-changed, thread-is}
use Rattle.hybrid_laws.proofs.states.Quiet.{sleeping-after}
use Rattle.hybrid_laws.proofs.trap.Goes.{NodeSteps, more-sound, more-stops, steps-of, steps-then, stops-fewer}
use Rattle.hybrid_laws.specs.Stopped.{stops}
use Rattle.isa_model.specs.Memory.{may_access}
use Rattle.isa_model.specs.declared.stops.Stop.TheVariants.{Break, Ecall, Illegal, Misaligned, On, Fault as StopFault}
use Rattle.isa_model.specs.declared.stops.Stop.{Stop}
use Rattle.kernel_model.specs.Calls.{clone_call, local_call}
use Rattle.kernel_model.specs.CloneCalls.{CallDone, are_clone_flags, are_fork_flags, clone, clone_or_fork, cloned_thread, clones, forks, with_thread}
use Rattle.kernel_model.specs.LocalCalls.{refuses}
use Rattle.kernel_model.specs.MemoryCalls.{Reply as DecidedReply, Round as DecidedRound, Decision, Now, decide}
use Rattle.kernel_model.specs.Nodes.{Node, Thread, answered, is_asleep, is_stopped, lowest_free_place, most_processes, most_threads, process_of, set_a0, set_does, set_pc, stop_in, thread_of, threads_of}
use Rattle.kernel_model.specs.Signals.{View, on_node, raised, signal_of_stop, store, try_store}
use Rattle.kernel_model.specs.Traps.{Changes, Done, Forks, Trapped, arguments_of, call_named, called, cloned, decided, past_ecall, trap, trap_of_stop, Begins}
use Rattle.kernel_model.specs.declared.Does.TheVariants.{InVm, Ready, Stopped}
use Rattle.mck_word.specs.MapLaws.{at-put}
use Rattle.mck_word.specs.Maps.{at, change, count, total}
use Rattle.mck_word.specs.Words.{has_bit, little_endian, refused, word_of}
use Rattle.mck_word.specs.declared.Access.TheVariants.{Write}
use Rattle.mck_word.specs.declared.Regs.{Regs}
use Rattle.std.proofs.Common.{ap, arith, refl, subst, sym, ◌∙◌}
use Rattle.std.proofs.lemmas.Bool.Decides.{nat_tests}
use Rattle.std.specs.Prelude.{Bool, List, None, Option, Some, cond, false, get_or, length, nat_le, nat_lt, not, pos, true, ℕ, ℤ, ◌+◌, ◌<◌, ◌==◌, ◌≡◌}
use Rattle.system_calls.specs.declared.LocalCall.{LocalCall}
use Rattle.system_calls.specs.declared.SystemCall.TheVariants.{Clone, File, Local, Memory}
use Rattle.system_calls.specs.declared.SystemCall.{SystemCall}

clones-node : (t flags stack parent_tid tls child_tid : ℕ) (v : View) → (clones t flags stack parent_tid tls child_tid v).node ≡ answered t (pos v.node.next_number) (with_thread (cloned_thread v.node (thread_of v.node t) flags stack tls child_tid) v.node)
clones-node t flags stack parent_tid tls child_tid v = ap (answered t (pos n)) (outer (has_bit 24 flags) (may_access told.memory Write child_tid (length (little_endian 4 n))))
  where
    n : ℕ
    n = v.node.next_number

    x : Thread
    x = cloned_thread v.node (thread_of v.node t) flags stack tls child_tid

    made : View
    made = on_node (with_thread x) v

    told : View
    told = cond (has_bit 20 flags) (try_store parent_tid (little_endian 4 n) made) made

    inner : (b c : Bool) → (cond b (cond c (store parent_tid (little_endian 4 n) made) made) made).node ≡ with_thread x v.node
    inner true true = refl
    inner true false = refl
    inner false c = refl

    told-node : told.node ≡ with_thread x v.node
    told-node = inner (has_bit 20 flags) (may_access v.memory Write parent_tid (length (little_endian 4 n)))

    outer : (b c : Bool) → (cond b (cond c (store child_tid (little_endian 4 n) told) told) told).node ≡ with_thread x v.node
    outer true true = told-node
    outer true false = told-node
    outer false c = told-node

module _ (t : ℕ) where
  abbrev pub TrappedSteps : Node → Trapped → Type 0
  TrappedSteps a (Done v) = NodeSteps a v.node
  TrappedSteps a (Forks v child stores) = Unit {0}
  TrappedSteps a (Begins new_node progress) = Unit {0}
  TrappedSteps a (Changes new_node change) = Unit {0}

  -- a step of the thread, which is awake
  pub awake-steps : (a b : Node) → Sound a → IsAwake t a → GoesAwake t a b → NodeSteps a b
  awake-steps a b s w g = steps-of a b s g.goes (sleeping-after t a b g w s.sleeping)

  module _ (v : View) (s : Sound v.node) (x : Thread) (there : at v.node.threads t ≡ Some x) (stop : Stop) (stopped : x.does ≡ Stopped stop) (awake : IsAwake t v.node) where
    on : (b : Node) → GoesOn t v.node b → NodeSteps v.node b
    on b g = let y = g.sleep x there awake (sleepers-are v.node s.sleeping) (sleep-once v.node s.sleeping) in steps-of v.node b s g.goes (sleeping-of b y.0 y.1)

    answers-steps : (a : ℤ) → NodeSteps v.node (answered t a v.node)
    answers-steps a = awake-steps v.node (answered t a v.node) s awake (answered-closed t (GoesAwake t) (GoesOn t) (goes-closed t) v.node a)

    clones-steps : (flags stack parent_tid tls child_tid : ℕ) → length (threads_of v.node (thread_of v.node t).process) < 16 → NodeSteps v.node (clones t flags stack parent_tid tls child_tid v).node
    clones-steps flags stack parent_tid tls child_tid few = subst (NodeSteps v.node) (sym (clones-node t flags stack parent_tid tls child_tid v)) made
      where
        y : Thread
        y = cloned_thread v.node (thread_of v.node t) flags stack tls child_tid

        same : thread_of v.node t ≡ x
        same = thread-is v.node t x there

        process : y.process ≡ x.process
        process = ap (λ (z : Thread). z.process) same

        few' : length (threads_of v.node x.process) < 16
        few' = subst (λ (q : ℕ). length (threads_of v.node q) < 16) process few

        place : y.place ≡ lowest_free_place v.node x.process
        place = ap (lowest_free_place v.node) process

        more : Node
        more = with_thread y v.node

        sound : Sound more
        sound = more-sound v.node s t x there few' y process place refl

        there-more : at more.threads t ≡ Some x
        there-more = at-put v.node.threads v.node.next_number y t ∙ (let l = s.threads_below t x there in let d : (t == v.node.next_number) ≡ false = grind (arith, nat_tests, l) in ap (λ b. cond b (Some y) (at v.node.threads t)) d) ∙ there

        answered-steps : NodeSteps more (answered t (pos v.node.next_number) more)
        answered-steps = awake-steps more (answered t (pos v.node.next_number) more) sound awake (answered-closed t (GoesAwake t) (GoesOn t) (goes-closed t) more (pos v.node.next_number))

        less : total stops (answered t (pos v.node.next_number) more).threads + 1 ≡ total stops more.threads
        less = stops-fewer more t x (λ z. record z { regs = set_a0 (word_of (pos v.node.next_number)) z.regs; does = Ready }) there-more (ap is_stopped stopped) refl

        made : NodeSteps v.node (answered t (pos v.node.next_number) more)
        made = record {
          sound = answered-steps.sound;
          frames = refl;
          limit = refl;
          files = refl;
          instructions = refl;
          made = λ q. refl;
          ended = λ q. refl;
          numbers = omega arith;
          paid = (let a = less in let b = more-stops v.node s t x there few' y process place refl in omega (arith, a, b));
        }

    clone-steps : (flags stack parent_tid tls child_tid : ℕ) → NodeSteps v.node (clone t flags stack parent_tid tls child_tid v).node
    clone-steps flags stack parent_tid tls child_tid = go (not (are_clone_flags flags)) (nat_le most_threads (length (threads_of v.node (thread_of v.node t).process))) refl
      where
        go : (b c : Bool) → nat_le most_threads (length (threads_of v.node (thread_of v.node t).process)) ≡ c → NodeSteps v.node (cond b (refuses t EINVAL v) (cond c (refuses t EAGAIN v) (clones t flags stack parent_tid tls child_tid v))).node
        go true c e = answers-steps (refused EINVAL)
        go false true e = answers-steps (refused EAGAIN)
        go false false e = clones-steps flags stack parent_tid tls child_tid (grind (arith, nat_tests, e))

    fork-steps : (frames flags stack parent_tid tls child_tid : ℕ) → TrappedSteps v.node (cloned (clone_or_fork t frames flags stack parent_tid tls child_tid v))
    fork-steps frames flags stack parent_tid tls child_tid = go (are_fork_flags flags) (nat_le most_processes (count v.node.processes)) (nat_lt frames (count v.memory))
      where
        go : (b c d : Bool) → TrappedSteps v.node (cloned (cond b (cond c (CallDone (refuses t EAGAIN v)) (cond d (CallDone (refuses t ENOMEM v)) (forks t flags stack parent_tid tls child_tid v))) (CallDone (clone t flags stack parent_tid tls child_tid v))))
        go true true d = answers-steps (refused EAGAIN)
        go true false true = answers-steps (refused ENOMEM)
        go true false false = tt
        go false c d = clone-steps flags stack parent_tid tls child_tid

    local-steps : (call : LocalCall) (arguments : List ℕ) → NodeSteps v.node (local_call t call arguments v).node
    unfolding local_call
    local-steps call arguments = on (local_call t call arguments v).node (calls-closed t (GoesAwake t) (GoesOn t) (goes-closed t) call (λ k. get_or arguments k 0) v)

    clone_call-steps : (frames : ℕ) (arguments : List ℕ) → TrappedSteps v.node (cloned (clone_call t frames arguments v))
    unfolding clone_call
    clone_call-steps frames arguments = fork-steps frames (get_or arguments 0 0) (get_or arguments 1 0) (get_or arguments 2 0) (get_or arguments 3 0) (get_or arguments 4 0)

    decided-steps : (d : Decision) → TrappedSteps v.node (decided t v d)
    decided-steps (DecidedReply answer) = answers-steps answer
    decided-steps (Now change) = tt
    decided-steps (DecidedRound change) = awake-steps v.node (set_does t (InVm change) v.node) s awake (does-closed t (GoesAwake t) (GoesOn t) (goes-closed t) v.node (InVm change) refl)

    called-steps : (frames : ℕ) (r : Regs) (o : Option SystemCall) → TrappedSteps v.node (called t frames r v o)
    called-steps frames r None = answers-steps (refused ENOSYS)
    called-steps frames r (Some Clone) = clone_call-steps frames (arguments_of r)
    called-steps frames r (Some (Local call)) = local-steps call (arguments_of r)
    called-steps frames r (Some (Memory call)) = decided-steps (decide (process_of v.node (thread_of v.node t).process) v.memory frames call (arguments_of r))
    called-steps frames r (Some (File call)) = tt

    raised-steps : (signal : ℕ) → NodeSteps v.node (raised t signal v.node)
    raised-steps signal = awake-steps v.node (raised t signal v.node) s awake (raised-closed t (GoesAwake t) (GoesOn t) (goes-closed t) v.node signal)

  -- ---- from before the ecall was passed
  module _ (v : View) (s : Sound v.node) (x : Thread) (there : at v.node.threads t ≡ Some x) (stop : Stop) (stopped : x.does ≡ Stopped stop) where
    pub awake-stopped : IsAwake t v.node
    awake-stopped = is-awake v.node t x there (ap is_asleep stopped) s.sleeping

    abbrev pub behind : View
    behind = past_ecall t v

    past-goes : GoesAwake t v.node behind.node
    past-goes = past-closed t (GoesAwake t) (GoesOn t) (goes-closed t) v.node

    pub past-steps : NodeSteps v.node behind.node
    past-steps = awake-steps v.node behind.node s awake-stopped past-goes

    pub past-there : at behind.node.threads t ≡ Some (record x { regs = set_pc (x.regs.pc + 4) x.regs })
    past-there = thread-changed v.node t (λ (y : Thread). record y { regs = set_pc (y.regs.pc + 4) y.regs }) x there

    after-past : (y : Trapped) → TrappedSteps behind.node y → TrappedSteps v.node y
    after-past (Done w) k = steps-then v.node behind.node w.node past-steps k
    after-past (Forks w child stores) k = tt
    after-past (Begins new_node progress) k = tt
    after-past (Changes new_node change) k = tt

    pub trap-steps : (frames : ℕ) → TrappedSteps v.node (trap t frames v)
    unfolding trap
    trap-steps frames = go (stop_in (thread_of v.node t).does)
      where
        raise : (z : Stop) → NodeSteps v.node (raised t (signal_of_stop z) v.node)
        raise z = raised-steps v s x there stop stopped awake-stopped (signal_of_stop z)

        go : (o : Option Stop) → TrappedSteps v.node (trap_of_stop t frames v o)
        go None = steps-of v.node v.node s (goes-same v.node) s.sleeping
        go (Some Ecall) =
            let r = (thread_of v.node t).regs in
            after-past (called t frames r behind (call_named r))
            (called-steps behind past-steps.sound (record x { regs = set_pc (x.regs.pc + 4) x.regs }) past-there stop stopped awake-stopped frames r (call_named r))
        go (Some On) = raise On
        go (Some Break) = raise Break
        go (Some Illegal) = raise Illegal
        go (Some Misaligned) = raise Misaligned
        go (Some (StopFault l)) = raise (StopFault l)
