-- What the trap of a thread needs that is no fork.
use Rattle.file_model.specs.Files.{Files}
use Rattle.ikc_channel.specs.declared.Channel.{Channel}
use Rattle.kernel_model.specs.Nodes.{process_of, thread_of}
use Rattle.kernel_model.specs.Traps.{call_named}
use Rattle.kernel_tables.specs.Shown.{node_of}
use Rattle.kernel_tables.specs.declared.tables.KernelTables.{KernelTables}
use Rattle.lwk_side.specs.Changing.{HeapFits}
use Rattle.lwk_side.specs.Cloning.{MayClone}
use Rattle.lwk_side.specs.Resting.{MayRest}
use Rattle.lwk_side.specs.Wired.{Wired}
use Rattle.lwk_side.specs.declared.kernel.Lwk.{Lwk}
use Rattle.lwk_side.specs.declared.task.Task.{Task}
use Rattle.mck_word.specs.declared.Regs.{Regs}
use Rattle.std.specs.Prelude.{Some, ℕ, ◌-◌, ◌<◌, ◌^◌, ◌≡◌, ◌≤◌}
use Rattle.system_calls.specs.declared.LocalCall.TheVariants.{Futex}
use Rattle.system_calls.specs.declared.SystemCall.TheVariants.{Clone, Local}

-- a call of the process can begin: the channel is wired, a request can be numbered, and its caller noted
pub record CanBegin {T : Type 0} (lwk : Lwk) (task : Task T) (channel : Channel) : Type 0 where
  pub wired : Wired lwk channel.to_linux
  pub room : 1 ≤ channel.book.spare
  pub callers : 1 ≤ task.callers.spare
  pub more : channel.book.requests.next < 2 ^ 64 - 1

-- the call that the registers name can be made, where it is one by which the thread rests or that makes a thread
pub record CallFits (node : KernelTables) (t : ℕ) (regs : Regs) : Type 0 where
  pub rest : call_named regs ≡ Some (Local Futex) → MayRest node t
  pub clone : call_named regs ≡ Some Clone → MayClone node t

-- the thread is one of the process, whose heap is where it may be
pub record IsOfProcess (node : KernelTables) (p t : ℕ) : Type 0 where
  pub own : (files : Files) → (thread_of (node_of node files) t).process ≡ p
  pub heap : (files : Files) → HeapFits (process_of (node_of node files) p)
