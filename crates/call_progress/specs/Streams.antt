-- Streams that move and end, and the room that steps and pieces need.
use Rattle.call_progress.specs.Kept.{HasOut, Kept}
use Rattle.file_calls.specs.Pieces.{HasRoom}
use Rattle.file_calls.specs.Placed.{placed}
use Rattle.file_calls.specs.Rooms.{Room}
use Rattle.file_model.specs.FileSteps.{ready}
use Rattle.file_model.specs.Files.{Files}
use Rattle.file_model.specs.Operations.{FileResult}
use Rattle.file_model.specs.declared.operations.FileOp.{FileOp}
use Rattle.file_model.specs.declared.operations.FileOp.TheVariants.{Get, Put}
use Rattle.file_model.specs.declared.operations.Readiness.TheVariants.{FileStep}
use Rattle.file_model.specs.declared.descriptions.Target.{Target}
use Rattle.kernel_model.specs.CallPhases.{Phase, Gather, Act, Scatter, Stream, act_of}
use Rattle.kernel_model.specs.Progress.{nat_of, next_piece, stream_operation}
use Rattle.std.specs.Prelude.{◌≡◌, ◌≤◌, ◌⊎◌, ℕ, List, get_or, length}

abbrev pub IsStream : FileOp → Type 0
IsStream (Get d at moved n) = Unit {0}
IsStream (Put d at moved n) = Unit {0}
IsStream _ = ⊥

abbrev pub len_asked : FileOp → ℕ
len_asked (Get d at moved n) = n
len_asked (Put d at moved n) = n
len_asked _ = 0

-- the piece can move nothing, or has no bytes
abbrev pub EndsStream : Files → FileOp → Type 0
EndsStream files op = (ready files op ≡ FileStep) ⊎ (len_asked op ≡ 0)

-- a piece that is ready moves so many bytes, and what it gives out stands at the front of its bytes
pub record HasMoved (r : FileResult) (count : ℕ) (before after : List ℕ) (left : Files) : Type 0 where
  pub moves : count ≡ nat_of r.answer
  pub fits : count ≤ length before
  pub gives : length r.out ≤ length before
  pub fills : after ≡ placed r.out before
  pub leaves : left ≡ r.files

-- the room that the file step of a phase needs
abbrev pub HasStepRoom : Room → (Target → ℕ → Type 0) → Files → Kept → Phase → Type 0
HasStepRoom room can_write files k (Gather rs) = Unit {0}
HasStepRoom room can_write files k Act = let op = act_of k.progress.call k.progress.arguments in HasRoom room can_write files op × HasOut op k.out
HasStepRoom room can_write files k (Scatter rs) = Unit {0}
HasStepRoom room can_write files k (Stream rs) = HasRoom room can_write files (stream_operation k.progress)

-- the same of the phase under way
abbrev pub HasRoomForStep : Room → (Target → ℕ → Type 0) → Files → Kept → Type 0
HasRoomForStep room can_write files k = HasStepRoom room can_write files k (get_or k.progress.phases 0 Act)

-- the room that the piece of a phase needs
abbrev pub HasPieceRoom : Room → (Target → ℕ → Type 0) → Files → Kept → Phase → Type 0
HasPieceRoom room can_write files k (Gather rs) = (next_piece k.progress).len ≤ k.spare
HasPieceRoom room can_write files k Act = Unit {0}
HasPieceRoom room can_write files k (Scatter rs) = Unit {0}
HasPieceRoom room can_write files k (Stream rs) = HasRoom room can_write files (stream_operation k.progress)

-- the same of the phase under way
abbrev pub HasRoomForPiece : Room → (Target → ℕ → Type 0) → Files → Kept → Type 0
HasRoomForPiece room can_write files k = HasPieceRoom room can_write files k (get_or k.progress.phases 0 Act)
