-- What a file step asks of its arguments, and what it gives.
use Rattle.file_calls.specs.Placed.{len_said, len_with, placed}
use Rattle.file_model.specs.Files.{Files, description_of}
use Rattle.file_model.specs.Operations.{FileResult}
use Rattle.file_model.specs.Streams.{write_ready}
use Rattle.file_model.specs.declared.operations.FileAns.{FileAns}
use Rattle.file_model.specs.declared.operations.FileAns.TheVariants as answer
use Rattle.file_model.specs.declared.operations.FileOp.{FileOp}
use Rattle.file_model.specs.declared.operations.FileOp.TheVariants.{Openat, Mkdirat, Unlinkat, Close, Lseek, Ioctl, Pipe2, Fstat, Getdents, Read, Write, Get, Put, Leave}
use Rattle.file_model.specs.declared.operations.Readiness.{Readiness}
use Rattle.file_model.specs.declared.operations.Readiness.TheVariants.{Ready, NotReady, FileStep}
use Rattle.std.specs.Prelude.{◌≡◌, ℕ, ◌<◌, ◌^◌, ◌-◌, min, List, length, ℤ, pos, ◌<ℤ◌}

-- no description is held by so many calls that one more cannot be counted: it is so where there are fewer calls than that in all
abbrev pub FewCalls : Files → Type 0
FewCalls files = (d : ℕ) → (description_of files d).calls < 2 ^ 32 - 1

-- what an operation asks of the files and of its buffer
abbrev pub Allows : Files → FileOp → List ℕ → Type 0
Allows files (Openat dirfd flags) io = Unit {0}
Allows files (Mkdirat dirfd) io = Unit {0}
Allows files (Unlinkat dirfd flags) io = Unit {0}
Allows files (Close fd) io = Unit {0}
Allows files (Lseek fd offset whence) io = Unit {0}
Allows files (Ioctl fd) io = Unit {0}
Allows files (Pipe2 flags) io = length io ≡ 8
Allows files (Fstat fd) io = length io ≡ 128
Allows files (Getdents fd most) io = length io ≡ min most 65_536
Allows files (Read fd at count) io = FewCalls files
Allows files (Write fd at count) io = FewCalls files
Allows files (Get d at moved n) io = length io ≡ n
Allows files (Put d at moved n) io = write_ready files d at moved n ≡ Ready → length io ≡ n
Allows files (Leave d) io = Unit {0}

-- the answer of a step, and that it has to wait
abbrev pub answered : Readiness → ℤ → FileAns
answered Ready value = answer.Done value
answered NotReady value = answer.NotReady
answered FileStep value = answer.Done value

-- how many bytes a step gives out with its answer
abbrev pub len_of : FileOp → ℤ → ℕ
len_of (Pipe2 flags) value = len_with 8 value
len_of (Fstat fd) value = len_with 128 value
len_of (Getdents fd most) value = len_said value
len_of (Get d at moved n) value = len_said value
len_of _ value = 0

abbrev pub given_len : FileOp → FileAns → ℕ
given_len op (answer.Done value) = len_of op value
given_len op answer.NotReady = 0

-- the description that the act of a reading or writing call answers is a u32
abbrev pub IsSmall : FileAns → Type 0
IsSmall (answer.Done value) = value <ℤ pos (2 ^ 32)
IsSmall answer.NotReady = Unit {0}

abbrev pub IsNumber : FileOp → FileAns → Type 0
IsNumber (Read fd at count) value = IsSmall value
IsNumber (Write fd at count) value = IsSmall value
IsNumber _ value = Unit {0}

-- a step answers and leaves what its result says, and the bytes that it gives out, of that length, stand at the front of the buffer
pub record IsStep (r : FileResult) (kind : Readiness) (value : FileAns) (len : ℕ) (before after : List ℕ) (left : Files) : Type 0 where
  pub answers : value ≡ answered kind r.answer
  pub gives : length r.out ≡ len
  pub fills : after ≡ placed r.out before
  pub leaves : left ≡ r.files
