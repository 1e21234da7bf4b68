-- A call on files that begins is under way: it has phases, one act among them, and has found no description.
use Rattle.hybrid_model.specs.Globals.{IsUnderWay}
use Rattle.kernel_model.specs.CallPhases.{phases_of}
use Rattle.kernel_model.specs.Progress.{starting}
use Rattle.std.proofs.Common.{arith}
use Rattle.std.specs.Prelude.{List, ℕ}
use Rattle.system_calls.specs.declared.file_calls.FileCall.TheVariants.{Close, Fstat, Getdents64, Ioctl, Lseek, Mkdirat, Openat, Pipe2, Pread64, Pwrite64, Read, Readv, Unlinkat, Write, Writev}
use Rattle.system_calls.specs.declared.file_calls.FileCall.{FileCall}

pub starts-under-way : (call : FileCall) (arguments : List ℕ) → IsUnderWay (starting call arguments (phases_of call arguments))
starts-under-way Openat arguments = record { phases = omega arith; acts = omega arith }
starts-under-way Mkdirat arguments = record { phases = omega arith; acts = omega arith }
starts-under-way Unlinkat arguments = record { phases = omega arith; acts = omega arith }
starts-under-way Close arguments = record { phases = omega arith; acts = omega arith }
starts-under-way Lseek arguments = record { phases = omega arith; acts = omega arith }
starts-under-way Ioctl arguments = record { phases = omega arith; acts = omega arith }
starts-under-way Pipe2 arguments = record { phases = omega arith; acts = omega arith }
starts-under-way Fstat arguments = record { phases = omega arith; acts = omega arith }
starts-under-way Getdents64 arguments = record { phases = omega arith; acts = omega arith }
starts-under-way Read arguments = record { phases = omega arith; acts = omega arith }
starts-under-way Readv arguments = record { phases = omega arith; acts = omega arith }
starts-under-way Write arguments = record { phases = omega arith; acts = omega arith }
starts-under-way Writev arguments = record { phases = omega arith; acts = omega arith }
starts-under-way Pread64 arguments = record { phases = omega arith; acts = omega arith }
starts-under-way Pwrite64 arguments = record { phases = omega arith; acts = omega arith }
