-- Which calls are forks, and what a clone needs of the node.
use Rattle.file_model.specs.Files.{Files}
use Rattle.isa_model.specs.declared.stops.Stop.{Stop}
use Rattle.isa_model.specs.declared.stops.Stop.TheVariants.{Ecall}
use Rattle.kernel_model.specs.CloneCalls.{are_fork_flags}
use Rattle.kernel_model.specs.Nodes.{Node as KernelNode, has_thread, stop_in, thread_of}
use Rattle.kernel_model.specs.Traps.{arguments_of, call_named}
use Rattle.kernel_tables.specs.Shown.{node_of}
use Rattle.kernel_tables.specs.declared.tables.KernelTables.{KernelTables}
use Rattle.mck_word.specs.declared.Regs.{Regs}
use Rattle.std.specs.Prelude.{Bool, Option, Some, false, get_or, true, ℕ, ◌-◌, ◌<◌, ◌^◌, ◌≡◌, ◌≤◌}
use Rattle.system_calls.specs.declared.SystemCall.{SystemCall}
use Rattle.system_calls.specs.declared.SystemCall.TheVariants.{Clone}

-- a clone with those flags is a fork
abbrev pub is_fork : Option SystemCall → ℕ → Bool
is_fork (Some Clone) flags = are_fork_flags flags
is_fork _ flags = false

-- the call that the registers name is a fork
abbrev pub names_fork : Regs → Bool
names_fork r = is_fork (call_named r) (get_or (arguments_of r) 0 0)

abbrev pub forks_at : Regs → Option Stop → Bool
forks_at r (Some Ecall) = names_fork r
forks_at r _ = false

-- the trap of the thread is a fork
abbrev pub calls_fork : KernelNode → ℕ → Bool
calls_fork node t = let x = thread_of node t in forks_at x.regs (stop_in x.does)

-- the thread lives, there is room for one more, and its number fits
pub record MayClone (node : KernelTables) (t : ℕ) : Type 0 where
  pub room : 1 ≤ node.threads.spare
  pub lives : (files : Files) → has_thread (node_of node files) t ≡ true
  pub below : (files : Files) → (node_of node files).next_number < 2 ^ 32 - 1
