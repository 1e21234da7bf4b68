-- The side of a child that is made ready before it begins, and the room that a fork needs.
use Rattle.file_calls.specs.Rooms.{Room}
use Rattle.file_model.specs.Files.{Files}
use Rattle.hybrid_model.specs.Events.{of_thread}
use Rattle.hybrid_model.specs.Sides.{Row, new_side}
use Rattle.hybrid_model.specs.declared.events.Event.TheVariants.{Trap}
use Rattle.kernel_tables.specs.Shown.{node_of}
use Rattle.lwk_side.specs.Cloning.{calls_fork}
use Rattle.lwk_space.specs.Copies.{HasCopyRoom}
use Rattle.lwk_space.specs.Spaced.{Spaced}
use Rattle.mck_word.specs.Maps.{Map, at}
use Rattle.mck_word.specs.declared.PageRange.{PageRange}
use Rattle.mck_word.specs.declared.Tid.{Tid}
use Rattle.pair_core.specs.Kept.{Takes}
use Rattle.pair_core.specs.KernelRoom.{HasKernelRoom}
use Rattle.pair_core.specs.Shown.{shown_side}
use Rattle.pair_core.specs.declared.parts.Parts.{Parts}
use Rattle.pair_core.specs.declared.parts.Side.{Side}
use Rattle.std.specs.Prelude.{Bool, List, Some, false, true, ℕ, ◌+◌, ◌≡◌, ◌≤◌}

module _ {T : Type 0} (rows : T → Map Row) (has_room : T → List PageRange → Type 0) where
  -- nothing happened to it yet, its rings take what they may have to, and it has room for the pages of its parent
  pub record IsNewborn (parent : Spaced T) (rings workers : ℕ) (s : Side T) : Type 0 where
    pub side : shown_side rows s ≡ new_side rings
    pub takes : Takes (49 + workers) s.channel
    pub room : HasCopyRoom rows has_room parent s.task.space

  -- one that is kept aside
  pub record HasNewborn {F : Type 0} (x : Parts T F) (s : Side T) : Type 0 where
    pub child : Side T
    pub kept : x.newborn ≡ Some child
    pub is : IsNewborn s.task.space x.lwk.rings x.workers child

  -- a thread of the process may fork
  pub record HasForkRoom {F : Type 0} (room : F → Room) (x : Parts T F) (p : ℕ) : Type 0 where
    pub newborn : (s : Side T) → at x.sides.map p ≡ Some s → HasNewborn x s
    pub sides : 1 ≤ x.sides.spare
    pub process : 1 ≤ x.lwk.node.processes.spare
    pub thread : 1 ≤ x.lwk.node.threads.spare
    pub files : 1 ≤ (room x.files).shares

  module _ {F : Type 0} (room : F → Room) (files : F → Files) where
    -- by whether the trap of the thread is a fork
    abbrev pub HasRoomWhen : Bool → Tid → Parts T F → Type 0
    HasRoomWhen true t x = HasForkRoom room x (of_thread (node_of x.lwk.node (files x.files)) t.0)
    HasRoomWhen false t x = HasKernelRoom rows has_room files (Trap t) x

    abbrev pub HasTrapOrForkRoom : Tid → Parts T F → Type 0
    HasTrapOrForkRoom t x = HasRoomWhen (calls_fork (node_of x.lwk.node (files x.files)) t.0) t x
