-- What a contract sees of a call's progress.
use Rattle.call_phases.specs.StreamBytes.{most_left}
use Rattle.file_model.specs.Files.{Files}
use Rattle.file_model.specs.Operations.{FileResult}
use Rattle.file_model.specs.declared.operations.FileOp.{FileOp}
use Rattle.file_model.specs.declared.operations.FileOp.TheVariants.{Pipe2, Fstat, Getdents, Get, Put, Leave}
use Rattle.kernel_model.specs.CallPhases.{Phase, most_moved}
use Rattle.kernel_model.specs.Progress.{After, Moved, Progress}
use Rattle.std.specs.Prelude.{◌≡◌, ◌≤◌, ◌+◌, ◌≤ℤ◌, pos, ℕ, ℤ, List, Option, length, min}

-- the progress, for how many bytes its buffer has room, and the bytes that an act can give out into
pub record Kept : Type 0 where
  pub progress : Progress
  pub spare : ℕ
  pub out : List ℕ

-- the front of the buffer is within it, and the bytes moved and still to be moved are no more than a call may move
pub record IsWithin (from len moved : ℕ) (phases : List Phase) : Type 0 where
  pub front : from ≤ len
  pub bytes : moved + most_left phases ≤ most_moved

-- what a step leaves, with the answer where the call has ended
abbrev pub after : Progress → Option ℤ → Files → After
after progress ended files = record { progress = progress; ended = ended; files = files }

-- the acts, which are no pieces of streams
abbrev pub IsAct : FileOp → Type 0
IsAct (Get d at moved n) = ⊥
IsAct (Put d at moved n) = ⊥
IsAct (Leave d) = ⊥
IsAct _ = Unit {0}

-- an act has a buffer for what it gives out
abbrev pub HasOut : FileOp → List ℕ → Type 0
HasOut (Pipe2 flags) out = length out ≡ 8
HasOut (Fstat fd) out = length out ≡ 128
HasOut (Getdents fd most) out = length out ≡ min most 65_536
HasOut _ out = Unit {0}

-- an act answers, leaves the files and gives its bytes out, if it is not refused
pub record HasActed (r : FileResult) (value : ℤ) (left : Files) (before now : Kept) : Type 0 where
  pub answers : value ≡ r.answer
  pub leaves : left ≡ r.files
  pub keeps : now.progress ≡ before.progress
  pub gives : pos 0 ≤ℤ value → now.out ≡ r.out

-- a piece that was moved: the bytes of its page, and the rest of what the step leaves
abbrev pub moved : List ℕ → After → Moved
moved page rest = record { page = page; after = rest }
