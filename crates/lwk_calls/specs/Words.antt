-- Parts of the local calls of kernel_model's specs, as the code takes them.
use Rattle.file_model.specs.Errno.{EAGAIN, EFAULT, EINVAL, ENOSYS}
use Rattle.isa_model.specs.Memory.{Memory, may_access, read_bytes}
use Rattle.kernel_model.specs.CloneCalls.{are_clone_flags, begins_wait, may_end_wait, wait_over}
use Rattle.kernel_model.specs.LocalCalls.{answers, dies_without_threads, note_first_code, wake}
use Rattle.kernel_model.specs.Nodes.{Node, Thread, most_threads, no_thread, thread_of, without_thread}
use Rattle.kernel_model.specs.SignalSets.{minus}
use Rattle.kernel_model.specs.Signals.{View, on_node, try_store}
use Rattle.lwk_views.specs.Views.{tried}
use Rattle.mck_word.specs.Words.{little_endian, number_of, refused}
use Rattle.mck_word.specs.declared.Access.TheVariants.{Read}
use Rattle.std.specs.Prelude.{Bool, None, Option, Some, cond, nat_le, not, ℕ, ℤ, ◌%◌, ◌==◌, ◌^◌}

-- ---- exit

-- the word at the address is cleared where it may be written, and the first that sleeps there wakes; 0 is no address
abbrev pub cleared : ℕ → ℕ → View → View
cleared p address v = cond (address == 0) v (on_node (wake p address 1) (try_store address (little_endian 4 0) v))

abbrev pub of_process : ℕ → Thread
of_process p = record no_thread { process = p }

-- a thread of the process leaves with the code
abbrev pub leaves : ℕ → ℕ → ℕ → Node → Node
leaves t p code node = dies_without_threads p (without_thread t (note_first_code t (of_process p) code node))

-- ---- refusals

-- the caller is refused, or the call goes on
abbrev pub unless_refused : ℕ → Option ℤ → (View → View) → View → View
unless_refused t None word v = word v
unless_refused t (Some answer) word v = answers t answer v

-- the 32-bit number at an address, where it may be read
abbrev pub word_at : Memory → ℕ → Option ℕ
word_at m address = cond (may_access m Read address 4) (Some (number_of (read_bytes m address 4))) None

abbrev pub other_word : ℕ → Option ℕ → Option ℤ
other_word val None = Some (refused EFAULT)
other_word val (Some w) = cond (not (w == val % 2 ^ 32)) (Some (refused EAGAIN)) None

-- why a wait at an address is refused
abbrev pub wait_refusal : Memory → ℕ → ℕ → ℕ → Option ℤ
wait_refusal m address val timeout =
    cond (not (address % 4 == 0)) (Some (refused EINVAL))
    (cond (not (timeout == 0)) (Some (refused ENOSYS))
    (other_word val (word_at m address)))

-- why a clone is refused in a process of so many threads
abbrev pub clone_refusal : ℕ → ℕ → Option ℤ
clone_refusal flags threads =
    cond (not (are_clone_flags flags)) (Some (refused EINVAL))
    (cond (nat_le most_threads threads) (Some (refused EAGAIN)) None)

-- why a wait for a child is refused
abbrev pub wait4_refusal : ℕ → ℕ → Option ℤ
wait4_refusal options rusage =
    cond (not (minus options 11 == 0)) (Some (refused EINVAL))
    (cond (not (rusage == 0)) (Some (refused ENOSYS)) None)

-- ---- stores

-- the memory after a number of 32 bits is stored where it is asked for and may be
abbrev pub told : Bool → ℕ → ℕ → Memory → Memory
told asked address n m = cond asked (tried address (little_endian 4 n) m) m

-- ---- wait4

-- a wait that isn't refused
abbrev pub waits : ℕ → ℤ → ℕ → ℕ → View → View
waits t pid status options v = cond (may_end_wait v.node (thread_of v.node t).process pid) (wait_over t pid status v) (begins_wait t pid status options v)
