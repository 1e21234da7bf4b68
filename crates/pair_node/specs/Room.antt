-- The room for an event.
use Rattle.file_calls.specs.Rooms.{Room}
use Rattle.file_model.specs.Files.{Files}
use Rattle.file_model.specs.declared.descriptions.Target.{Target}
use Rattle.hybrid_model.specs.Sides.{Row}
use Rattle.hybrid_model.specs.declared.events.Event.{Event}
use Rattle.hybrid_model.specs.declared.events.Event.TheVariants.{Trap}
use Rattle.mck_word.specs.Maps.{Map}
use Rattle.mck_word.specs.declared.PageRange.{PageRange}
use Rattle.pair_core.specs.KernelRoom.{HasKernelRoom}
use Rattle.pair_core.specs.LinuxRoom.{HasLinuxRoom}
use Rattle.pair_core.specs.Newborn.{HasTrapOrForkRoom}
use Rattle.pair_core.specs.declared.parts.Parts.{Parts}
use Rattle.pair_node.specs.Listed.{HasListRoom}
use Rattle.pair_node.specs.declared.members.Members.{Members}
use Rattle.std.specs.Prelude.{List, ℕ, ◌≤◌}

-- where the event is a trap, which may be a fork, one number more can be noted
abbrev pub HasPlace : Event → (spare : ℕ) → Type 0
HasPlace (Trap t) spare = 1 ≤ spare
HasPlace _ spare = Unit {0}

-- and one thread more be listed
abbrev pub HasListPlace : Event → Members → Type 0
HasListPlace (Trap t) m = HasListRoom m
HasListPlace _ m = Unit {0}

module _ {T F : Type 0} (rows : T → Map Row) (has_room : T → List PageRange → Type 0) (room : F → Room) (files : F → Files) where
  -- in the lightweight kernel, where a trap may be a fork
  abbrev pub HasLwkRoom : Event → Parts T F → Type 0
  HasLwkRoom (Trap t) x = HasTrapOrForkRoom rows has_room room files t x
  HasLwkRoom e x = HasKernelRoom rows has_room files e x

module _ {T F : Type 0} (rows : T → Map Row) (has_room : T → List PageRange → Type 0) (room : F → Room) (can_write : F → Target → ℕ → Type 0) (files : F → Files) where
  pub record HasRoom (e : Event) (x : Parts T F) : Type 0 where
    pub linux : HasLinuxRoom room can_write files e x
    pub kernel : HasLwkRoom rows has_room room files e x
