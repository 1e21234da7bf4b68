-- What is left to do in the one-kernel state that is shown: the steps of calls, their marks, the signals that are pending, threads that rest or change memory, and processes.
use Rattle.file_model.specs.Acts.{count_is_valid}
use Rattle.file_model.specs.Files.{Console, Files, Inode, is_open, most_console_bytes, most_file_bytes, most_pipe_bytes}
use Rattle.file_model.specs.declared.descriptions.Target.TheVariants.{OfNode}
use Rattle.hybrid_model.specs.Tallies.{as_number, tally}
use Rattle.kernel_model.specs.Nodes.{Node, Process, Thread, has_ended}
use Rattle.kernel_model.specs.OneKernel.{Active, Blocked, Call, CallStatus, OneKernel, Over, Own}
use Rattle.kernel_model.specs.Pages.{page_size}
use Rattle.kernel_model.specs.CallPhases.{Act, Gather, Phase, Scatter, Stream, vector_count}
use Rattle.kernel_model.specs.Progress.{Progress}
use Rattle.kernel_model.specs.declared.Does.TheVariants.{Asleep, Called, InVm, InWait, Ready, Stopped}
use Rattle.kernel_model.specs.declared.Does.{Does}
use Rattle.kernel_model.specs.declared.ranges.Range.{Range}
use Rattle.mck_word.specs.Maps.{entries, total}
use Rattle.std.specs.Prelude.{Bool, List, [], cond, false, length, nat_lt, not, sum_by, true, ℕ, ◌%◌, ◌&&◌, ◌*◌, ◌+◌, ◌-◌, ◌/◌, ◌∷◌}
use Rattle.system_calls.specs.FileCalls.{has_path, has_vectors}
use Rattle.system_calls.specs.declared.file_calls.FileCall.{FileCall}
use Rattle.work_laws.specs.SignalCount.{signals}

-- ---- a call

-- the pages that a range touches
abbrev pub pieces_of : Range → ℕ
pieces_of r = cond (nat_lt 0 r.len) ((r.address % page_size + r.len + (page_size - 1)) / page_size) 0

abbrev pub pieces : List Range → ℕ
pieces ranges = tally pieces_of ranges

-- the pieces of the most that a call moves, which may stand in 16 ranges; and those of the most that an act builds
abbrev pub most_pieces : ℕ
most_pieces = 48

abbrev pub most_built : ℕ
most_built = 18

-- A piece of a stream counts twice, since it may make room for one that is cut. The last piece of vectors is followed by their stream.
abbrev pub phase_left : FileCall → Phase → ℕ
phase_left call (Gather ranges) = 1 + pieces ranges + cond (has_path call) 0 (2 * most_pieces)
phase_left call Act = 2 + most_built
phase_left call (Scatter ranges) = 1 + pieces ranges
phase_left call (Stream ranges) = 1 + 2 * pieces ranges

abbrev pub phases_left : FileCall → List Phase → ℕ
phases_left call phases = tally (phase_left call) phases

abbrev pub begins_with_act : List Phase → Bool
begins_with_act [] = false
begins_with_act (Act ∷ phases) = true
begins_with_act (phase ∷ phases) = false

-- a number of vectors that the act refuses
abbrev pub is_refused : Progress → Bool
is_refused p = has_vectors p.call && begins_with_act p.phases && not (count_is_valid (vector_count p.call p.arguments))

abbrev pub progress_left : Progress → ℕ
progress_left p = 1 + cond (is_refused p) 2 (phases_left p.call p.phases)

abbrev pub status_left : CallStatus → ℕ
status_left (Active p) = progress_left p
status_left (Blocked p) = progress_left p
status_left (Over answer) = 0

-- ---- files: pieces that may be cut, since a pipe or a console comes to its end, or a file to its limit

abbrev pub pipe_left : List ℕ → ℕ
pipe_left bytes = as_number (nat_lt 0 (length bytes)) + as_number (nat_lt (length bytes) most_pipe_bytes)

abbrev pub console_left : Console → ℕ
console_left c = as_number (nat_lt 0 (length c.input)) + as_number (nat_lt (length c.output) most_console_bytes)

abbrev pub file_left : Files → ℕ × Inode → ℕ
file_left files e = as_number (is_open files (OfNode e.0) && nat_lt (length e.1.bytes) most_file_bytes)

abbrev pub files_left : Files → ℕ
files_left files = total pipe_left files.pipes + total console_left files.consoles + sum_by (file_left files) (entries files.nodes)

-- ---- calls and their marks

abbrev pub own_calls_left : Own → ℕ
own_calls_left own = total (λ (c : Call). status_left c.status) own.calls

abbrev pub calls_left : OneKernel → ℕ
calls_left one = files_left one.node.files + total own_calls_left one.own

-- a call that isn't marked may be interrupted
abbrev pub of_mark : Bool → ℕ
of_mark marked = cond marked 0 16

abbrev pub own_marks_left : Own → ℕ
own_marks_left own = total (λ (c : Call). of_mark c.marked) own.calls

abbrev pub marks_left : OneKernel → ℕ
marks_left one = total own_marks_left one.own

-- ---- threads and processes: what a change of memory counts, and the end of a process

pub record Prices : Type 0 where
  pub step : ℕ
  pub change : ℕ
  pub process : ℕ

abbrev pub of_does : ℕ → Does → ℕ
of_does change Ready = 0
of_does change (Stopped s) = 0
of_does change Called = 0
of_does change (InVm c) = change
of_does change (Asleep a) = 1
of_does change (InWait pid status) = 1

abbrev pub of_thread : ℕ → Thread → ℕ
of_thread change x = of_does change x.does + signals x.pending

abbrev pub of_process : ℕ → Process → ℕ
of_process process x = cond (has_ended x.life) 0 process + signals x.pending

abbrev pub node_left : Prices → Node → ℕ
node_left k node = total (of_thread k.change) node.threads + total (of_process k.process) node.processes

abbrev pub kernel_left : Prices → OneKernel → ℕ
kernel_left k one = k.step * calls_left one + marks_left one + node_left k one.node
