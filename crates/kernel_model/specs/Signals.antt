-- Signals: generating, choosing, raising, delivering, returning.
-- Source: man-pages sections 2 and 7 (sigaction, sigreturn, signal); the frame and the order of signals are this project's own.
use Rattle.file_model.specs.Errno.{EINTR}
use Rattle.isa_model.specs.Memory.{may_access, read_bytes, write_bytes, Memory}
use Rattle.isa_model.specs.Registers.{reg}
use Rattle.isa_model.specs.declared.stops.Stop.{Stop}
use Rattle.isa_model.specs.declared.stops.Stop.TheVariants.{Fault, Illegal, Misaligned, On, Break, Ecall}
use Rattle.kernel_model.specs.Nodes.{Process, Thread, action_of, change_process, change_thread, dies, process_of, set_a0, set_does, set_pc, set_reg, thread_of, Node}
use Rattle.kernel_model.specs.SignalSets.{has, with_signal, without_signal, union, minus, as_mask, lowest}
use Rattle.kernel_model.specs.declared.Action.{Action}
use Rattle.kernel_model.specs.declared.Does.TheVariants.{Ready}
use Rattle.mck_word.specs.Lists.{member, tail}
use Rattle.mck_word.specs.Maps.{each}
use Rattle.mck_word.specs.Words.{wrapped, has_bit, little_endian, number_of, word_of, refused}
use Rattle.mck_word.specs.declared.Access.TheVariants.{Read, Write}
use Rattle.mck_word.specs.declared.End.TheVariants.{Killed}
use Rattle.mck_word.specs.declared.Regs.{Regs}
use Rattle.std.specs.Prelude.{ℕ, zero, suc, ◌+◌, ◌-◌, ◌*◌, ◌/◌, ◌^◌, Bool, false, not, cond, ◌&&◌, ◌||◌, ◌==◌, List, [], ◌∷◌, ◌++◌, take, drop, is_some, flat_map, Option, Some, None, length, slice_set}

-- bytes that go to a process's memory, where the process may write them
pub record Store : Type 0 where
  pub address : ℕ
  pub bytes : List ℕ

-- A node beside the memory of the process of which a step speaks, as it is before the step, and what the step stores there.
pub record View : Type 0 where
  pub node : Node
  pub memory : Memory
  pub stores : List Store

abbrev pub view : Node → Memory → View
view node memory = record { node = node; memory = memory; stores = [] }

abbrev pub on_node : (Node → Node) → View → View
on_node f v = record v { node = f v.node }

abbrev pub store : ℕ → List ℕ → View → View
store address bytes v = record v { stores = v.stores ++ record { address = address; bytes = bytes } ∷ [] }

-- a store that is left out where it can't be made
abbrev pub try_store : ℕ → List ℕ → View → View
try_store address bytes v = cond (may_access v.memory Write address (length bytes)) (store address bytes v) v

-- the memory after the stores, one after another
abbrev pub stored_all : List Store → Memory → Memory
stored_all [] m = m
stored_all (s ∷ ss) m = stored_all ss (write_bytes m s.address s.bytes)

-- ---- generating

abbrev pub ignored_by_default : List ℕ
ignored_by_default = 17 ∷ 18 ∷ 23 ∷ 28 ∷ []

abbrev pub action_ignores : ℕ → Action → Bool
action_ignores signal a = a.handler == 1 || (a.handler == 0 && member signal ignored_by_default)

abbrev pub ignores : Process → ℕ → Bool
ignores p signal = action_ignores signal (action_of p signal)

-- a signal that the process ignores is dropped
abbrev pub generate_for_process : ℕ → ℕ → Node → Node
generate_for_process p signal node = cond (ignores (process_of node p) signal) node
    (change_process p (λ (x : Process). record x { pending = with_signal signal x.pending }) node)

abbrev pub generate_for_thread : ℕ → ℕ → Node → Node
generate_for_thread t signal node = cond (ignores (process_of node (thread_of node t).process) signal) node
    (change_thread t (λ (x : Thread). record x { pending = with_signal signal x.pending }) node)

-- ---- choosing

-- the lowest number that is pending for the thread or its process and not masked
abbrev pub next_of_sets : ℕ → ℕ → ℕ → Option ℕ
next_of_sets own shared mask = lowest (minus (union own shared) mask)

abbrev pub next_signal : Node → ℕ → Option ℕ
next_signal node t = let x = thread_of node t in next_of_sets x.pending (process_of node x.process).pending x.mask

abbrev pub is_deliverable : Node → ℕ → Bool
is_deliverable node t = is_some (next_signal node t)

-- the signal is taken from the thread's own set, and from the process's where it is not there
abbrev pub taken : ℕ → ℕ → Node → Node
taken t signal node =
    let x = thread_of node t in
    cond (has signal x.pending)
    (change_thread t (λ (y : Thread). record y { pending = without_signal signal y.pending }) node)
    (change_process x.process (λ (p : Process). record p { pending = without_signal signal p.pending }) node)

-- the signal that is next moves into the thread's own set
abbrev pub moved_to_own : ℕ → Node → Node
moved_to_own t node = elim (next_signal node t) [
  | None ↦ node
  | Some signal ↦ change_thread t (λ (y : Thread). record y { pending = with_signal signal y.pending }) (taken t signal node)
]

-- ---- raising

abbrev pub signal_of_stop : Stop → ℕ
signal_of_stop On = 0
signal_of_stop Ecall = 0
signal_of_stop Break = 5
signal_of_stop Illegal = 4
signal_of_stop Misaligned = 7
signal_of_stop (Fault lack) = 11

-- A signal of the thread's own making. Blocked or ignored, it ends the process at once; else it is pending. The thread is Ready in both cases.
abbrev pub raised : ℕ → ℕ → Node → Node
raised t signal node =
    let x = thread_of node t in
    cond (has signal x.mask || ignores (process_of node x.process) signal)
    (change_process x.process (dies (Killed signal)) (set_does t Ready node))
    (change_thread t (λ (y : Thread). record y { pending = with_signal signal y.pending; does = Ready }) node)

-- ---- delivering

abbrev pub SA_RESTART : Action → Bool
SA_RESTART a = has_bit 28 a.flags

abbrev pub SA_NODEFER : Action → Bool
SA_NODEFER a = has_bit 30 a.flags

abbrev pub SA_RESETHAND : Action → Bool
SA_RESETHAND a = has_bit 31 a.flags

abbrev pub frame_size : ℕ
frame_size = 272

abbrev pub trampoline : ℕ
trampoline = 0x3ffffff000

-- the frame: pc, x1 to x31, the mask, and eight zero bytes
abbrev pub frame_bytes : Regs → ℕ → List ℕ
frame_bytes r mask = flat_map (little_endian 8) (r.pc ∷ tail r.x ++ (mask ∷ 0 ∷ []))

-- where the frame stands: below the stack pointer, at a multiple of 16
abbrev pub frame_address : Regs → ℕ
frame_address r = wrapped (reg r 2 + (2 ^ 64 - frame_size)) / 16 * 16

-- a thread that stands back on an interrupted ecall goes on behind it with -EINTR, unless the action restarts
abbrev pub interrupted_regs : Bool → Action → Regs → Regs
interrupted_regs back a r = cond (back && not (SA_RESTART a)) (set_a0 (word_of (refused EINTR)) (set_pc (r.pc + 4) r)) r

abbrev pub handler_regs : Action → ℕ → ℕ → Regs → Regs
handler_regs a signal sp r =
    set_reg 1 trampoline (set_reg 2 sp (set_reg 10 signal (set_reg 11 0 (set_reg 12 0 (record r { pc = a.handler })))))

abbrev pub handler_mask : Action → ℕ → ℕ → ℕ
handler_mask a signal mask = as_mask (union mask (cond (SA_NODEFER a) a.mask.0 (with_signal signal a.mask.0)))

abbrev pub set_action : ℕ → Action → Process → Process
set_action signal a p = record p { actions = slice_set p.actions (signal - 1) a }

abbrev pub with_action : ℕ → ℕ → Action → Node → Node
with_action p signal a node = change_process p (set_action signal a) node

-- a signal that is ignored from now on leaves all pending sets
abbrev pub drop_ignored : ℕ → ℕ → Node → Node
drop_ignored p signal node = cond (ignores (process_of node p) signal)
    (record (change_process p (λ (x : Process). record x { pending = without_signal signal x.pending }) node) {
      threads = each (λ (y : Thread). cond (y.process == p) (record y { pending = without_signal signal y.pending }) y) node.threads;
    })
    node

abbrev pub after_reset : ℕ → ℕ → Action → Node → Node
after_reset p signal a node = cond (SA_RESETHAND a) (drop_ignored p signal (with_action p signal (record a { handler = 0 }) node)) node

-- the handler is entered: the frame is stored, or the process is killed where it can't be
abbrev pub enter_handler : ℕ → ℕ → Action → View → View
enter_handler t signal a v =
    let x = thread_of v.node t in
    let r = interrupted_regs x.back a x.regs in
    let sp = frame_address r in
    cond (may_access v.memory Write sp frame_size)
    (store sp (frame_bytes r x.mask)
    (on_node (λ node. after_reset x.process signal a (change_thread t (λ (y : Thread). record y { regs = handler_regs a signal sp r; mask = handler_mask a signal y.mask; back = false }) node)) v))
    (on_node (λ node. change_process x.process (dies (Killed 11)) (change_thread t (λ (y : Thread). record y { regs = r; back = false }) node)) v)

abbrev pub deliver_signal : ℕ → ℕ → View → View
deliver_signal t signal v =
    let p = (thread_of v.node t).process in
    let a = action_of (process_of v.node p) signal in
    cond (a.handler == 0)
    (on_node (λ node. change_process p (dies (Killed signal)) (change_thread t (λ (y : Thread). record y { regs = interrupted_regs y.back a y.regs; back = false }) node)) v)
    (enter_handler t signal a v)

-- the next signal is taken and delivered
abbrev pub deliver : ℕ → View → View
deliver t v = elim (next_signal v.node t) [
  | None ↦ v
  | Some signal ↦ deliver_signal t signal (on_node (taken t signal) v)
]

-- ---- returning

abbrev pub words_in : ℕ → List ℕ → List ℕ
words_in zero bytes = []
words_in (suc n) bytes = number_of (take 8 bytes) ∷ words_in n (drop 8 bytes)

abbrev pub restored : List ℕ → Regs
restored bytes = record { pc = number_of (take 8 bytes); x = 0 ∷ words_in 31 (drop 8 bytes) }

abbrev pub mask_in : List ℕ → ℕ
mask_in bytes = as_mask (number_of (take 8 (drop 256 bytes)))

-- the registers and the mask come back from the frame at the stack pointer; where it can't be read, 11 is raised
abbrev pub return_from_handler : ℕ → View → View
return_from_handler t v =
    let sp = reg (thread_of v.node t).regs 2 in
    let bytes = read_bytes v.memory sp frame_size in
    cond (may_access v.memory Read sp frame_size)
    (on_node (change_thread t (λ (y : Thread). record y { regs = restored bytes; mask = mask_in bytes; does = Ready })) v)
    (on_node (raised t 11) v)
