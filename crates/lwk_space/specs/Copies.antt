-- The room that a copy of pages takes.
use Rattle.hybrid_model.specs.Sides.{Row}
use Rattle.lwk_space.specs.Spaced.{Spaced}
use Rattle.mck_word.specs.Maps.{Map, at, keep}
use Rattle.mck_word.specs.Pages.{in_ranges}
use Rattle.mck_word.specs.declared.PageRange.{PageRange}
use Rattle.std.specs.Prelude.{IsTrue, List, is_some, length, nat_le, ℕ, ◌≤◌}

-- the rows of the pages from one on
abbrev pub from_on : {V : Type 0} → ℕ → Map V → Map V
from_on low m = keep m (λ k. nat_le low k)

-- there is room for some list in which each page of the rows lies
abbrev pub RoomForRows : (List PageRange → Type 0) → Map Row → Type 0
RoomForRows has_room rows = (rs : List PageRange) × has_room rs × ((k : ℕ) → IsTrue (is_some (at rows k)) → IsTrue (in_ranges rs k))

-- a space has room for the pages of another one
pub record HasCopyRoom {T : Type 0} (rows : T → Map Row) (has_room : T → List PageRange → Type 0) (from to : Spaced T) : Type 0 where
  pub table : RoomForRows (has_room to.table) (rows from.table)
  pub areas : length from.areas.ranges ≤ to.areas.spare
