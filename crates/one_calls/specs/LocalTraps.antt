-- The traps that are local: stops that are no calls, calls that aren't known, local calls and clones; of these forks
-- stand apart.
use Rattle.isa_model.specs.declared.stops.Stop.{Stop}
use Rattle.isa_model.specs.declared.stops.Stop.TheVariants.{Ecall}
use Rattle.kernel_model.specs.CloneCalls.{are_fork_flags}
use Rattle.kernel_model.specs.Nodes.{Node, stop_in, thread_of}
use Rattle.kernel_model.specs.Traps.{arguments_of, call_named}
use Rattle.mck_word.specs.declared.Regs.{Regs}
use Rattle.std.specs.Prelude.{Bool, Option, Some, None, false, get_or, not, true, ℕ}
use Rattle.system_calls.specs.declared.SystemCall.{SystemCall}
use Rattle.system_calls.specs.declared.SystemCall.TheVariants.{Clone, Local}

-- a call of that name with those flags is a fork
abbrev pub is_fork : Option SystemCall → ℕ → Bool
is_fork (Some Clone) flags = are_fork_flags flags
is_fork _ flags = false

abbrev pub names_fork : Regs → Bool
names_fork r = is_fork (call_named r) (get_or (arguments_of r) 0 0)

-- a call of that name with those flags isn't known, or is local, or a clone that is no fork
abbrev pub is_local : Option SystemCall → ℕ → Bool
is_local None flags = true
is_local (Some (Local call)) flags = true
is_local (Some Clone) flags = not (are_fork_flags flags)
is_local _ flags = false

abbrev pub names_local : Regs → Bool
names_local r = is_local (call_named r) (get_or (arguments_of r) 0 0)

abbrev pub stops_locally : Regs → Option Stop → Bool
stops_locally r None = false
stops_locally r (Some Ecall) = names_local r
stops_locally r (Some stop) = true

-- the trap of the thread is local, and no fork
abbrev pub traps_locally : Node → ℕ → Bool
traps_locally node t = let x = thread_of node t in stops_locally x.regs (stop_in x.does)

abbrev pub forks_at : Regs → Option Stop → Bool
forks_at r (Some Ecall) = names_fork r
forks_at r _ = false

-- the trap of the thread is a fork
abbrev pub calls_fork : Node → ℕ → Bool
calls_fork node t = let x = thread_of node t in forks_at x.regs (stop_in x.does)
