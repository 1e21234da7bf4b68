-- The work of a journal and its allowance, and what a call has left to do.
-- Source: this project's own.
use Rattle.ikc_ring.specs.declared.Msg.TheVariants as Messages
use Rattle.file_model.specs.Errno.{EPIPE}
use Rattle.hybrid_model.specs.Events.{after}
use Rattle.hybrid_model.specs.Journals.{state}
use Rattle.hybrid_model.specs.OneProcess.{memory_here}
use Rattle.hybrid_model.specs.Pairs.{Pair, here, side_of}
use Rattle.hybrid_model.specs.Rings.{head_of}
use Rattle.hybrid_model.specs.declared.events.Event.{Event}
use Rattle.hybrid_model.specs.declared.events.Event.TheVariants.{Run, Trap, Intake, Reap, Script}
use Rattle.ikc_ring.specs.declared.Msg.{Msg}
use Rattle.isa_model.specs.Memory.{may_access}
use Rattle.isa_model.specs.Registers.{reg}
use Rattle.isa_model.specs.declared.stops.Stop.{Stop}
use Rattle.isa_model.specs.declared.stops.Stop.TheVariants.{Ecall}
use Rattle.kernel_model.specs.Nodes.{process_of, thread_of, ScriptLine, is_living, lives, stop_in}
use Rattle.kernel_model.specs.declared.ranges.Range.{Range}
use Rattle.kernel_model.specs.CallPhases.{Phase as CallPhase, Gather, Act as ActPhase, Scatter, Stream}
use Rattle.kernel_model.specs.Progress.{Progress}
use Rattle.kernel_model.specs.SignalSets.{has}
use Rattle.kernel_model.specs.Signals.{frame_size}
use Rattle.kernel_model.specs.Traps.{call_named, is_error, line_of}
use Rattle.mck_word.specs.Identifiers.{tid}
use Rattle.mck_word.specs.Lists.{count_from}
use Rattle.mck_word.specs.Maps.{count}
use Rattle.mck_word.specs.declared.Access.TheVariants.{Read}
use Rattle.mck_word.specs.declared.Regs.{Regs}
use Rattle.std.specs.Prelude.{Bool, List, None, Option, Some, [], count_by, false, filter, length, not, set, sum_by, true, ℕ, ◌*◌, ◌+◌, ◌/◌, ◌∷◌, ◌%◌, ◌&&◌, ◌==◌, ◌^◌}
use Rattle.system_calls.specs.declared.LocalCall.{LocalCall}
use Rattle.system_calls.specs.declared.LocalCall.TheVariants.{Kill, RtSigreturn, Tgkill}
use Rattle.system_calls.specs.declared.SystemCall.{SystemCall}
use Rattle.system_calls.specs.declared.SystemCall.TheVariants.{Local}

-- ---- work

abbrev pub counts_as_work : Event → Bool
counts_as_work (Run core t n) = false
counts_as_work _ = true

abbrev pub work : List Event → ℕ
work journal = count_by counts_as_work journal

-- ---- signals generated: each generation counts, also of a signal that is dropped as ignored or is pending already

abbrev pub signals_in : ℕ → ℕ
signals_in set = length (filter (λ signal. has signal set) (count_from 1 64))

abbrev pub if_so : Bool → ℕ
if_so true = 1
if_so false = 0

-- a kill or tgkill that answers 0 and whose signal isn't 0, and a return from a handler whose frame can't be read
abbrev pub generated_by_local : Pair → ℕ → Regs → Regs → LocalCall → ℕ
generated_by_local pair p before now Kill = if_so (reg now 10 == 0 && not (reg before 11 % 2 ^ 32 == 0))
generated_by_local pair p before now Tgkill = if_so (reg now 10 == 0 && not (reg before 12 % 2 ^ 32 == 0))
generated_by_local pair p before now RtSigreturn = if_so (not (may_access (memory_here (here pair p)) Read (reg before 2) frame_size))
generated_by_local pair p before now _ = 0

abbrev pub generated_by_call : Pair → ℕ → Regs → Regs → Option SystemCall → ℕ
generated_by_call pair p before now (Some (Local call)) = generated_by_local pair p before now call
generated_by_call pair p before now _ = 0

abbrev pub generated_by_stop : Pair → ℕ → Option Stop → ℕ
generated_by_stop pair t None = 0
generated_by_stop pair t (Some Ecall) = let x = thread_of pair.node t in generated_by_call pair x.process x.regs (thread_of (after pair (Trap (tid t))).node t).regs (call_named x.regs)
generated_by_stop pair t (Some stop) = 1

abbrev pub generated_by_message : Bool → Option Msg → ℕ
generated_by_message lives (Some (Messages.Reply q code)) = if_so (lives && is_error EPIPE code)
generated_by_message lives _ = 0

abbrev pub generated_by_line : Option ScriptLine → ℕ
generated_by_line None = 0
generated_by_line (Some l) = 1

-- the signals that an event generates: an interrupt only moves one
abbrev pub generated : Pair → Event → ℕ
generated pair (Trap t) = generated_by_stop pair t.0 (stop_in (thread_of pair.node t.0).does)
generated pair (Intake p) = generated_by_message (is_living pair.node p.0) (head_of (side_of pair p.0).to_lwk)
generated pair (Reap p) = if_so (is_living pair.node (process_of pair.node p.0).parent)
generated pair (Script k) = generated_by_line (line_of pair.node k)
generated pair _ = 0

abbrev pub pays : Event → ℕ
pays (Trap t) = 1
pays (Script k) = 1
pays _ = 0

-- Trap events, Script events and signals generated
abbrev pub paid : Pair → List Event → ℕ
paid pair [] = 0
paid pair (e ∷ es) = pays e + generated pair e + paid (after pair e) es

abbrev pub processes_after : Pair → List Event → ℕ
processes_after pair journal = count (state pair journal).node.processes

-- 65,536 times the processes, times what was paid and the processes
abbrev pub allowance : Pair → List Event → ℕ
allowance pair journal = 65_536 * processes_after pair journal * (paid pair journal + processes_after pair journal)

-- ---- what a call has left

-- the steps that change files which a call has left: its pieces, its act and its end
abbrev pub pages_of_range : Range → ℕ
pages_of_range r = r.len / 4096 + 2

abbrev pub steps_of_phase : CallPhase → ℕ
steps_of_phase (Gather rs) = 48 + sum_by pages_of_range rs
steps_of_phase ActPhase = 1
steps_of_phase (Scatter rs) = sum_by pages_of_range rs
steps_of_phase (Stream rs) = sum_by pages_of_range rs

-- a piece of a pipe may be cut, so the bytes count too until a bound by pieces is shown
abbrev pub bytes_of_phase : CallPhase → ℕ
bytes_of_phase (Stream rs) = sum_by (λ (r : Range). r.len) rs
bytes_of_phase _ = 0

abbrev pub budget : Progress → ℕ
budget p = 1 + sum_by steps_of_phase p.phases + sum_by bytes_of_phase p.phases
