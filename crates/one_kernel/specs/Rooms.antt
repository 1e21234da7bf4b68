-- The memory that steps need.
use Rattle.call_progress.specs.Streams.{HasRoomForPiece, HasRoomForStep}
use Rattle.kernel_model.specs.Steps.{of_thread}
use Rattle.mck_word.specs.Maps.{at, count, no_rows}
use Rattle.one_files.specs.Seen.{can_write_of, room_of, seen}
use Rattle.one_kernel.specs.Parts.{one_of}
use Rattle.one_kernel.specs.declared.calls.Call.{Call}
use Rattle.one_kernel.specs.declared.parts.One.{One}
use Rattle.one_kernel.specs.declared.parts.Own.{Own}
use Rattle.std.specs.Prelude.{Some, ℕ, ◌≡◌, ◌≤◌}

-- what is asked of the thread's call, in the row of its process
abbrev pub OfCall : One → ℕ → (Call → Type 0) → Type 0
OfCall x t P = (w : Own) (c : Call) → at x.own.map (of_thread (one_of x).node t) ≡ Some w → at w.calls.map t ≡ Some c → P c

-- there is room for the file step of the thread's call
abbrev pub HasFileRoom : One → ℕ → Type 0
HasFileRoom x t = OfCall x t (λ c. HasRoomForStep (room_of x.files) (can_write_of x.files) (seen x.files) c.progress)

-- there is room for the next piece of it
abbrev pub HasPieceRoom : One → ℕ → Type 0
HasPieceRoom x t = OfCall x t (λ c. HasRoomForPiece (room_of x.files) (can_write_of x.files) (seen x.files) c.progress)

-- a call of the thread can begin
abbrev pub HasCallRoom : One → ℕ → Type 0
HasCallRoom x t = (w : Own) → at x.own.map (of_thread (one_of x).node t) ≡ Some w → 1 ≤ w.calls.spare

-- the memory of a child has room for the pages of the thread's process
abbrev pub HasPagesFor : One → ℕ → Type 0
HasPagesFor x t = (w : Own) → at x.own.map (of_thread (one_of x).node t) ≡ Some w → count w.memory.map ≤ x.unborn.spare

-- a process can begin with a copy of the memory of the thread's process
pub record HasForkRoom (x : One) (t : ℕ) : Type 0 where
  pub process : 1 ≤ x.node.processes.spare
  pub row : 1 ≤ x.own.spare
  pub shares : 1 ≤ (room_of x.files).shares
  pub empty : x.unborn.map ≡ no_rows
  pub pages : HasPagesFor x t
