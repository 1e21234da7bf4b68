-- The traps by which a delegated call begins, and those of memory calls.
use Rattle.isa_model.specs.declared.stops.Stop.{Stop}
use Rattle.isa_model.specs.declared.stops.Stop.TheVariants.{Ecall}
use Rattle.kernel_model.specs.Nodes.{Node, stop_in, thread_of}
use Rattle.kernel_model.specs.Traps.{call_named}
use Rattle.mck_word.specs.declared.Regs.{Regs}
use Rattle.std.specs.Prelude.{Bool, Option, Some, false, true, ℕ}
use Rattle.system_calls.specs.declared.SystemCall.{SystemCall}
use Rattle.system_calls.specs.declared.SystemCall.TheVariants.{File, Memory}

abbrev pub is_delegated : Option SystemCall → Bool
is_delegated (Some (File call)) = true
is_delegated _ = false

abbrev pub is_on_memory : Option SystemCall → Bool
is_on_memory (Some (Memory call)) = true
is_on_memory _ = false

abbrev pub begins_at : Regs → Option Stop → Bool
begins_at r (Some Ecall) = is_delegated (call_named r)
begins_at r _ = false

-- the thread's trap begins a delegated call
abbrev pub begins_call : Node → ℕ → Bool
begins_call node t = let x = thread_of node t in begins_at x.regs (stop_in x.does)

abbrev pub changes_at : Regs → Option Stop → Bool
changes_at r (Some Ecall) = is_on_memory (call_named r)
changes_at r _ = false

-- the thread's trap is a memory call
abbrev pub calls_memory : Node → ℕ → Bool
calls_memory node t = let x = thread_of node t in changes_at x.regs (stop_in x.does)
