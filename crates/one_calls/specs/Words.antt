-- Parts of the local calls of kernel_model's specs, as the code takes them.
use Rattle.file_model.specs.Errno.{EAGAIN, EFAULT, EINVAL, ENOMEM, ENOSYS}
use Rattle.isa_model.specs.Memory.{Memory, may_access, read_bytes}
use Rattle.kernel_model.specs.CloneCalls.{with_child}
use Rattle.kernel_model.specs.LocalCalls.{answers, dies_without_threads, note_first_code, wake}
use Rattle.kernel_model.specs.Nodes.{Node, Thread, most_processes, no_thread, without_thread}
use Rattle.kernel_model.specs.Signals.{View, on_node, try_store}
use Rattle.mck_word.specs.Words.{has_bit, little_endian, number_of, refused}
use Rattle.mck_word.specs.declared.Access.TheVariants.{Read}
use Rattle.one_memory.specs.Views.{tried}
use Rattle.std.specs.Prelude.{Bool, None, Option, Some, cond, nat_le, nat_lt, not, pos, ℕ, ℤ, ◌%◌, ◌==◌, ◌^◌}

-- ---- exit

-- the word at the address is cleared where it may be written, and the first that sleeps there wakes; 0 is no address
abbrev pub cleared : ℕ → ℕ → View → View
cleared p address v = cond (address == 0) v (on_node (wake p address 1) (try_store address (little_endian 4 0) v))

abbrev pub of_process : ℕ → Thread
of_process p = record no_thread { process = p }

-- a thread of the process leaves with the code
abbrev pub leaves : ℕ → ℕ → ℕ → Node → Node
leaves t p code node = dies_without_threads p (without_thread t (note_first_code t (of_process p) code node))

-- ---- refusals

-- the 32-bit number at an address, where it may be read
abbrev pub word_at : Memory → ℕ → Option ℕ
word_at m address = cond (may_access m Read address 4) (Some (number_of (read_bytes m address 4))) None

abbrev pub other_word : ℕ → Option ℕ → Option ℤ
other_word val None = Some (refused EFAULT)
other_word val (Some w) = cond (not (w == val % 2 ^ 32)) (Some (refused EAGAIN)) None

-- why a wait at an address is refused
abbrev pub wait_refusal : Memory → ℕ → ℕ → ℕ → Option ℤ
wait_refusal m address val timeout =
    cond (not (address % 4 == 0)) (Some (refused EINVAL))
    (cond (not (timeout == 0)) (Some (refused ENOSYS))
    (other_word val (word_at m address)))

-- ---- fork

-- why a fork is refused with so many processes, where so many frames are free and the caller has so many pages
abbrev pub fork_refusal : ℕ → ℕ → ℕ → Option ℤ
fork_refusal processes free pages =
    cond (nat_le most_processes processes) (Some (refused EAGAIN))
    (cond (nat_lt free pages) (Some (refused ENOMEM)) None)

-- the child begins, and its parent is told its number
abbrev pub begins_child : ℕ → ℕ → ℕ → ℕ → ℕ → ℕ → View → View
begins_child t flags stack parent_tid tls child_tid v =
    let child = v.node.next_number in
    let told = cond (has_bit 20 flags) (try_store parent_tid (little_endian 4 child) v) v in
    answers t (pos child) (on_node (with_child t child flags stack tls child_tid) told)

-- ---- stores

-- the memory after a number of 32 bits is stored where it is asked for and may be
abbrev pub told : Bool → ℕ → ℕ → Memory → Memory
told asked address n m = cond asked (tried address (little_endian 4 n) m) m
