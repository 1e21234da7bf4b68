-- A trap of a stopped thread, and what gives it its answer later.
-- Source: this project's own.
use Rattle.file_model.specs.Errno.{EINTR, ENOSYS, EPIPE}
use Rattle.file_model.specs.Files.{close_all}
use Rattle.isa_model.specs.Instr.{Outcome, instr}
use Rattle.isa_model.specs.Memory as memories
use Rattle.isa_model.specs.Registers.{reg}
use Rattle.isa_model.specs.declared.stops.Stop.{Stop}
use Rattle.isa_model.specs.declared.stops.Stop.TheVariants.{On, Ecall}
use Rattle.kernel_model.specs.CallPhases.{phases_of}
use Rattle.kernel_model.specs.Calls.{clone_call, local_call}
use Rattle.kernel_model.specs.CloneCalls.{Born, CallDone, Cloned, may_end_wait, wait_over}
use Rattle.kernel_model.specs.LocalCalls.{answers}
use Rattle.kernel_model.specs.MemoryCalls.{Decision, Now, Reply, Round, decide}
use Rattle.kernel_model.specs.Nodes.{Process, ScriptLine, Sleeper, Thread, answered, change_process, change_thread, has_thread, is_dying, is_living, is_stopped, process_of, rests, sent_back, set_does, set_pc, stop_in, thread_of, without_sleeper, without_thread, Node, ready_to_run}
use Rattle.kernel_model.specs.Progress.{Progress, starting}
use Rattle.kernel_model.specs.Signals.{Store, View, generate_for_process, generate_for_thread, is_deliverable, on_node, raised, signal_of_stop}
use Rattle.kernel_model.specs.declared.Change.{Change}
use Rattle.kernel_model.specs.declared.Does.{Does}
use Rattle.kernel_model.specs.declared.Does.TheVariants.{InVm, InWait, Stopped, Ready}
use Rattle.kernel_model.specs.declared.Life.{Life}
use Rattle.kernel_model.specs.declared.Life.TheVariants.{Dying, Ended}
use Rattle.mck_word.specs.Maps.{change, collect}
use Rattle.mck_word.specs.Words.{refused}
use Rattle.mck_word.specs.declared.Regs.{Regs}
use Rattle.std.specs.Prelude.{take, drop, Bool, List, None, Option, Some, cond, false, filter, find, nat_le, negsuc, not, pos, ℕ, ℤ, ◌&&◌, ◌+◌, ◌==◌, ◌||◌}
use Rattle.system_calls.specs.Numbers.{system_call}
use Rattle.system_calls.specs.declared.SystemCall.{SystemCall}
use Rattle.system_calls.specs.declared.SystemCall.TheVariants.{Clone, File, Local, Memory}

-- ---- instructions

-- the thread is Ready, its process lives, and no signal is deliverable to it
abbrev pub may_run : Node → ℕ → Bool
may_run node t =
    let x = thread_of node t in
    has_thread node t && ready_to_run x.does && is_living node x.process && not (is_deliverable node t)

abbrev pub does_after : Stop → Does
does_after On = Ready
does_after stop = Stopped stop

abbrev pub counted : ℕ → Outcome → Node → Node
counted t e node =
    change_process (thread_of node t).process (λ (p : Process). record p { instructions = p.instructions + 1 })
    (change_thread t (λ (x : Thread). record x { regs = e.regs; does = does_after e.stop; back = false }) node)

-- a node and the memory of one process
pub record Ran : Type 0 where
  pub node : Node
  pub memory : memories.Memory

-- one instruction of the thread; the one that stops is counted
abbrev pub executed : ℕ → Ran → Ran
executed t v =
    let e = instr (thread_of v.node t).regs v.memory in
    record { node = counted t e v.node; memory = e.memory }

-- ---- traps

-- What a trap comes to: it is done; a process begins; a delegated call begins; or a change of the memory is made at once.
pub data Trapped : Type 0 where
  Done : View → Trapped
  Forks : View → (child : ℕ) → (stores : List Store) → Trapped
  Begins : Node → Progress → Trapped
  Changes : Node → Change → Trapped

abbrev pub decided : ℕ → View → Decision → Trapped
decided t v (Reply answer) = Done (answers t answer v)
decided t v (Now change) = Changes v.node change
decided t v (Round change) = Done (on_node (set_does t (InVm change)) v)

abbrev pub arguments_of : Regs → List ℕ
arguments_of r = take 6 (drop 10 r.x)

-- the call that the registers name, by its number in a7
abbrev pub call_named : Regs → Option SystemCall
call_named r = system_call (reg r 17)

abbrev pub cloned : Cloned → Trapped
cloned (CallDone v) = Done v
cloned (Born v child stores) = Forks v child stores

abbrev pub called : ℕ → ℕ → Regs → View → Option SystemCall → Trapped
called t free r v None = Done (answers t (refused ENOSYS) v)
called t free r v (Some Clone) = cloned (clone_call t free (arguments_of r) v)
called t free r v (Some (Local call)) = Done (local_call t call (arguments_of r) v)
called t free r v (Some (Memory call)) = decided t v (decide (process_of v.node (thread_of v.node t).process) v.memory free call (arguments_of r))
called t free r v (Some (File call)) = Begins v.node (starting call (arguments_of r) (phases_of call (arguments_of r)))

abbrev pub past_ecall : ℕ → View → View
past_ecall t v = on_node (change_thread t (λ (x : Thread). record x { regs = set_pc (x.regs.pc + 4) x.regs })) v

abbrev pub trap_of_stop : ℕ → ℕ → View → Option Stop → Trapped
trap_of_stop t free v None = Done v
trap_of_stop t free v (Some Ecall) = let r = (thread_of v.node t).regs in called t free r (past_ecall t v) (call_named r)
trap_of_stop t free v (Some stop) = Done (on_node (raised t (signal_of_stop stop)) v)

abbrev pub may_trap : Node → ℕ → Bool
may_trap node t = let x = thread_of node t in has_thread node t && is_stopped x.does && is_living node x.process

-- the trap of a stopped thread, with so many frames free
unfoldable pub trap : ℕ → ℕ → View → Trapped
trap t free v = trap_of_stop t free v (stop_in (thread_of v.node t).does)

abbrev pub may_deliver : Node → ℕ → Bool
may_deliver node t =
    let x = thread_of node t in
    has_thread node t && ready_to_run x.does && is_living node x.process && is_deliverable node t

-- ---- answers that come later

abbrev pub is_error : ℕ → ℤ → Bool
is_error errno (pos n) = false
is_error errno (negsuc n) = n + 1 == errno

abbrev pub returns_living : ℕ → ℤ → Node → Node
returns_living t answer node =
    cond (is_error EINTR answer) (sent_back t node)
    (cond (is_error EPIPE answer) (generate_for_thread t 13 (answered t answer node))
    (answered t answer node))

-- the thread of a call gets its answer; in a process that does not live it is Gone
unfoldable pub returns : ℕ → ℤ → Node → Node
returns t answer node = cond (is_living node (thread_of node t).process) (returns_living t answer node) (without_thread t node)

-- the thread of a change gets its answer
unfoldable pub finishes : ℕ → ℤ → Node → Node
finishes t answer node = cond (is_living node (thread_of node t).process) (answered t answer node) (without_thread t node)

-- ---- the wait for a child

abbrev pub wait_of : Does → Option (ℤ × ℕ)
wait_of (InWait pid status) = Some (pid, status)
wait_of _ = None

abbrev pub may_end_wait_of : Node → ℕ → Option (ℤ × ℕ) → Bool
may_end_wait_of node p None = false
may_end_wait_of node p (Some w) = may_end_wait node p w.0

abbrev pub may_wait : Node → ℕ → Bool
may_wait node t =
    let x = thread_of node t in
    has_thread node t && is_living node x.process && may_end_wait_of node x.process (wait_of x.does)

abbrev pub waited_for : ℕ → View → Option (ℤ × ℕ) → View
waited_for t v None = v
waited_for t v (Some w) = wait_over t w.0 w.1 v

unfoldable pub waited : ℕ → View → View
waited t v = waited_for t v (wait_of (thread_of v.node t).does)

-- ---- marks, the script, and the end

-- a signal is deliverable to a thread that rests
abbrev pub may_be_called_back : Node → ℕ → Bool
may_be_called_back node t =
    let x = thread_of node t in
    has_thread node t && rests x.does && is_living node x.process && is_deliverable node t

-- a resting thread is back on its ecall
unfoldable pub called_back : ℕ → Node → Node
called_back t node = sent_back t (without_sleeper t node)

abbrev pub may_be_marked : Node → ℕ → Bool
may_be_marked node t = is_deliverable node t || is_dying node (thread_of node t).process

abbrev pub line_is : ℕ → ScriptLine → Bool
line_is k l = l.index == k

abbrev pub line_of : Node → ℕ → Option ScriptLine
line_of node k = find (line_is k) node.unsent

abbrev pub line_may : Node → Option ScriptLine → Bool
line_may node None = false
line_may node (Some l) = is_living node l.process && nat_le l.after (process_of node l.process).instructions

abbrev pub may_script : Node → ℕ → Bool
may_script node k = line_may node (line_of node k)

abbrev pub sent : ℕ → Node → Option ScriptLine → Node
sent k node None = node
sent k node (Some l) = generate_for_process l.process l.signal (record node { unsent = filter (λ x. not (line_is k x)) node.unsent })

-- line k generates its signal for its process and is sent
unfoldable pub script_sent : ℕ → Node → Node
script_sent k node = sent k node (line_of node k)

abbrev pub life_ended : Life → Life
life_ended (Dying e) = Ended e
life_ended life = life

abbrev pub tells_parent : ℕ → Node → Node
tells_parent parent node = cond (is_living node parent) (generate_for_process parent 17 node) node

-- the process is Ended: it has no thread, no sleeper and no descriptor, and its parent gets signal 17
unfoldable pub process_ended : ℕ → Node → Node
process_ended p node = tells_parent (process_of node p).parent (change_process p (λ (x : Process). record x { life = life_ended x.life }) (record node {
  threads = collect (λ t (x : Thread). cond (x.process == p) None (Some x)) node.threads;
  sleepers = filter (λ (x : Sleeper). not (x.process == p)) node.sleepers;
  files = close_all p node.files;
}))
