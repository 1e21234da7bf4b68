-- Which traps begin a delegated call.
use Rattle.isa_model.specs.declared.stops.Stop.{Stop}
use Rattle.isa_model.specs.declared.stops.Stop.TheVariants.{Ecall}
use Rattle.kernel_model.specs.Nodes.{Node, stop_in, thread_of}
use Rattle.kernel_model.specs.Traps.{call_named}
use Rattle.mck_word.specs.declared.Regs.{Regs}
use Rattle.std.specs.Prelude.{Bool, Option, Some, false, true, ℕ}
use Rattle.system_calls.specs.declared.SystemCall.{SystemCall}
use Rattle.system_calls.specs.declared.SystemCall.TheVariants.{File}

abbrev pub is_delegated : Option SystemCall → Bool
is_delegated (Some (File call)) = true
is_delegated _ = false

-- the call that the registers name is delegated
abbrev pub names_delegated : Regs → Bool
names_delegated r = is_delegated (call_named r)

abbrev pub begins_at : Regs → Option Stop → Bool
begins_at r (Some Ecall) = names_delegated r
begins_at r _ = false

-- the trap of the thread begins a delegated call
abbrev pub begins_call : Node → ℕ → Bool
begins_call node t = let x = thread_of node t in begins_at x.regs (stop_in x.does)
