-- The file step of each operation, and its kind.
-- Source: this project's own.
use Rattle.std.specs.Prelude.{ℕ, List, pos}
use Rattle.file_model.specs.Files.{Files, leave}
use Rattle.file_model.specs.Operations.{FileResult, done}
use Rattle.file_model.specs.declared.operations.FileOp.{FileOp}
use Rattle.file_model.specs.declared.operations.FileOp.TheVariants.{Openat, Mkdirat, Unlinkat, Close, Lseek, Ioctl, Pipe2, Fstat, Getdents, Read as ReadAct, Write as WriteAct, Get, Put, Leave}
use Rattle.file_model.specs.declared.operations.Readiness.{Readiness}
use Rattle.file_model.specs.declared.operations.Readiness.TheVariants.{FileStep}
use Rattle.file_model.specs.Streams.{read_ready, write_ready, get_piece, put_piece}
use Rattle.file_model.specs.Acts.{openat, mkdirat, unlinkat, close, lseek, ioctl, pipe2, fstat, getdents, read_act, write_act}

-- which of the three kinds a step is: an act is always a file step
abbrev pub ready : Files → FileOp → Readiness
ready files (Get description at moved n) = read_ready files description at moved
ready files (Put description at moved n) = write_ready files description at moved n
ready files _ = FileStep

-- What the operation of a process answers and leaves. `given` is the path of an act with one, and the bytes of a written piece.
abbrev pub file_step : Files → ℕ → FileOp → List ℕ → FileResult
file_step files process (Openat dirfd flags) given = openat files process dirfd flags given
file_step files process (Mkdirat dirfd) given = mkdirat files process dirfd given
file_step files process (Unlinkat dirfd flags) given = unlinkat files process dirfd flags given
file_step files process (Close fd) given = close files process fd
file_step files process (Lseek fd offset whence) given = lseek files process fd offset whence
file_step files process (Ioctl fd) given = ioctl files process fd
file_step files process (Pipe2 flags) given = pipe2 files process flags
file_step files process (Fstat fd) given = fstat files process fd
file_step files process (Getdents fd most) given = getdents files process fd most
file_step files process (ReadAct fd at count) given = read_act files process fd at count
file_step files process (WriteAct fd at count) given = write_act files process fd at count
file_step files process (Get description at moved n) given = get_piece files description at moved n
file_step files process (Put description at moved n) given = put_piece files description at moved n given
file_step files process (Leave description) given = done (pos 0) (leave description files)
