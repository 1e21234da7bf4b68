-- Room for the operations.
use Rattle.file_calls.specs.Rooms.{Room}
use Rattle.file_model.specs.Files.{Files, console_of, description_of, most_console_bytes, most_file_bytes, most_pipe_bytes, pipe_of}
use Rattle.file_model.specs.Streams.{cut_at, write_offset}
use Rattle.file_model.specs.declared.descriptions.Target.{Target}
use Rattle.file_model.specs.declared.descriptions.Target.TheVariants.{OfNode, ReadEnd, WriteEnd, OfConsole}
use Rattle.file_model.specs.declared.operations.FileOp.{FileOp}
use Rattle.file_model.specs.declared.operations.FileOp.TheVariants.{Openat, Mkdirat, Unlinkat, Close, Lseek, Ioctl, Pipe2, Fstat, Getdents, Read, Write, Get, Put, Leave}
use Rattle.std.specs.Prelude.{ℕ, ◌+◌, ◌≤◌, cond, length, nat_lt, Option}

-- where n bytes from an offset end in a file, cut at its limit: 0 where the offset lies at or past it, and nothing is written
abbrev pub file_end : ℕ → ℕ → ℕ
file_end offset n = cond (nat_lt offset most_file_bytes) (offset + cut_at most_file_bytes offset n) 0

-- where a written piece of n bytes ends in its target
abbrev pub put_end : Files → ℕ → Option ℕ → ℕ → ℕ → Target → ℕ
put_end files d at moved n (OfNode node) = file_end (write_offset files (description_of files d) at moved) n
put_end files d at moved n (ReadEnd p) = 0
put_end files d at moved n (WriteEnd p) = let there = length (pipe_of files p) in there + cut_at most_pipe_bytes there n
put_end files d at moved n (OfConsole guest) = let there = length (console_of files guest).output in there + cut_at most_console_bytes there n

-- its target can be written up to there
abbrev pub HasPutRoom : (Target → ℕ → Type 0) → Files → ℕ → Option ℕ → ℕ → ℕ → Type 0
HasPutRoom can_write files d at moved n = let target = (description_of files d).target in can_write target (put_end files d at moved n target)

-- the room that an operation needs
abbrev pub HasRoom : Room → (Target → ℕ → Type 0) → Files → FileOp → Type 0
HasRoom room can_write files (Openat dirfd flags) = (1 ≤ room.nodes) × (1 ≤ room.opens)
HasRoom room can_write files (Mkdirat dirfd) = 1 ≤ room.nodes
HasRoom room can_write files (Unlinkat dirfd flags) = Unit {0}
HasRoom room can_write files (Close fd) = Unit {0}
HasRoom room can_write files (Lseek fd offset whence) = Unit {0}
HasRoom room can_write files (Ioctl fd) = Unit {0}
HasRoom room can_write files (Pipe2 flags) = (2 ≤ room.opens) × (1 ≤ room.pipes)
HasRoom room can_write files (Fstat fd) = Unit {0}
HasRoom room can_write files (Getdents fd most) = Unit {0}
HasRoom room can_write files (Read fd at count) = Unit {0}
HasRoom room can_write files (Write fd at count) = Unit {0}
HasRoom room can_write files (Get d at moved n) = Unit {0}
HasRoom room can_write files (Put d at moved n) = HasPutRoom can_write files d at moved n
HasRoom room can_write files (Leave d) = Unit {0}
