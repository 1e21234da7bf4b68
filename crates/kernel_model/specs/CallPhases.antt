-- The phases and the act of a call on files.
-- Source: man-pages section 2; phases are this project's own.
use Rattle.file_model.specs.declared.operations.FileOp.{FileOp}
use Rattle.file_model.specs.declared.operations.FileOp.TheVariants as acts
use Rattle.kernel_model.specs.declared.ranges.Range.{Range}
use Rattle.mck_word.specs.Words.{int_argument, signed}
use Rattle.std.specs.Prelude.{ℕ, ◌*◌, ◌%◌, ◌^◌, cond, min, List, [], ◌∷◌, get_or, Option, Some, None, ℤ, pos, negsuc}
use Rattle.system_calls.specs.FileCalls.{has_offset, has_vectors}
use Rattle.system_calls.specs.declared.file_calls.FileCall.{FileCall}
use Rattle.system_calls.specs.declared.file_calls.FileCall.TheVariants.{Close, Fstat, Getdents64, Ioctl, Lseek, Mkdirat, Openat, Pipe2, Pread64, Pwrite64, Read, Readv, Unlinkat, Write, Writev}

-- A phase with the ranges that it has left. The pieces of a phase are those of its ranges, in order.
pub data Phase : Type 0 where
  Gather : List Range → Phase
  Act : Phase
  Scatter : List Range → Phase
  Stream : List Range → Phase

-- ---- limits

-- the bytes that one call moves, and the bytes of a path
abbrev pub most_moved : ℕ
most_moved = 65_536

abbrev pub most_path : ℕ
most_path = 4_096

-- ---- the plan

abbrev pub argument : List ℕ → ℕ → ℕ
argument arguments k = get_or arguments k 0

abbrev pub one_range : ℕ → ℕ → List Range
one_range address len = record { address = address; len = len } ∷ []

abbrev pub magnitude : ℤ → ℕ
magnitude (pos n) = n
magnitude (negsuc n) = 0

abbrev pub path_phases : List ℕ → List Phase
path_phases arguments = Gather (one_range (argument arguments 1) most_path) ∷ Act ∷ []

abbrev pub vector_phases : List ℕ → List Phase
vector_phases arguments = Act ∷ Gather (one_range (argument arguments 1) (16 * magnitude (int_argument (argument arguments 2)))) ∷ Stream [] ∷ []

abbrev pub stream_phases : List ℕ → List Phase
stream_phases arguments = Act ∷ Stream (one_range (argument arguments 1) (min (argument arguments 2) most_moved)) ∷ []

abbrev pub phases_of : FileCall → List ℕ → List Phase
phases_of Openat arguments = path_phases arguments
phases_of Mkdirat arguments = path_phases arguments
phases_of Unlinkat arguments = path_phases arguments
phases_of Close arguments = Act ∷ []
phases_of Lseek arguments = Act ∷ []
phases_of Ioctl arguments = Act ∷ []
phases_of Pipe2 arguments = Act ∷ Scatter (one_range (argument arguments 0) 8) ∷ []
phases_of Fstat arguments = Act ∷ Scatter (one_range (argument arguments 1) 128) ∷ []
phases_of Getdents64 arguments = Act ∷ Scatter (one_range (argument arguments 1) (min (argument arguments 2) most_moved)) ∷ []
phases_of Readv arguments = vector_phases arguments
phases_of Writev arguments = vector_phases arguments
phases_of Read arguments = stream_phases arguments
phases_of Write arguments = stream_phases arguments
phases_of Pread64 arguments = stream_phases arguments
phases_of Pwrite64 arguments = stream_phases arguments

-- ---- the act of a delegated call

abbrev pub int_at : List ℕ → ℕ → ℤ
int_at arguments k = int_argument (argument arguments k)

-- an int argument whose bits are flags: its low 32 bits
abbrev pub flags_at : List ℕ → ℕ → ℕ
flags_at arguments k = argument arguments k % 2 ^ 32

abbrev pub own_offset : FileCall → List ℕ → Option ℤ
own_offset call arguments = cond (has_offset call) (Some (signed 64 (argument arguments 3))) None

abbrev pub vector_count : FileCall → List ℕ → ℤ
vector_count call arguments = cond (has_vectors call) (int_at arguments 2) (pos 0)

abbrev pub read_act : FileCall → List ℕ → FileOp
read_act call arguments = acts.Read (int_at arguments 0) (own_offset call arguments) (vector_count call arguments)

abbrev pub write_act : FileCall → List ℕ → FileOp
write_act call arguments = acts.Write (int_at arguments 0) (own_offset call arguments) (vector_count call arguments)

abbrev pub act_of : FileCall → List ℕ → FileOp
act_of Openat arguments = acts.Openat (int_at arguments 0) (flags_at arguments 2)
act_of Mkdirat arguments = acts.Mkdirat (int_at arguments 0)
act_of Unlinkat arguments = acts.Unlinkat (int_at arguments 0) (flags_at arguments 2)
act_of Close arguments = acts.Close (int_at arguments 0)
act_of Lseek arguments = acts.Lseek (int_at arguments 0) (signed 64 (argument arguments 1)) (int_at arguments 2)
act_of Ioctl arguments = acts.Ioctl (int_at arguments 0)
act_of Pipe2 arguments = acts.Pipe2 (flags_at arguments 1)
act_of Fstat arguments = acts.Fstat (int_at arguments 0)
act_of Getdents64 arguments = acts.Getdents (int_at arguments 0) (argument arguments 2)
act_of Read arguments = read_act Read arguments
act_of Readv arguments = read_act Readv arguments
act_of Pread64 arguments = read_act Pread64 arguments
act_of Write arguments = write_act Write arguments
act_of Writev arguments = write_act Writev arguments
act_of Pwrite64 arguments = write_act Pwrite64 arguments
