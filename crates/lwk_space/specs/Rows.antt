-- What holds of a table's rows, its frames and its room.
use Rattle.frame_pool.specs.Pools.{Pool}
use Rattle.hybrid_model.specs.Sides.{Row}
use Rattle.mck_word.specs.Lists.{member}
use Rattle.mck_word.specs.Maps.{Map, at}
use Rattle.mck_word.specs.Pages.{in_ranges}
use Rattle.mck_word.specs.declared.PageRange.{PageRange}
use Rattle.std.specs.Prelude.{IsTrue, List, None, Some, false, is_some, length, ℕ, ◌<◌, ◌≡◌, ◌≤◌}

-- the range has no row, or a row for each page
abbrev pub AbsentIn : Map Row → PageRange → Type 0
AbsentIn rows r = (k : ℕ) → r.lo ≤ k → k < r.hi → at rows k ≡ None

abbrev pub PresentIn : Map Row → PageRange → Type 0
PresentIn rows r = (k : ℕ) → r.lo ≤ k → k < r.hi → IsTrue (is_some (at rows k))

abbrev pub LiesIn : PageRange → List PageRange → Type 0
LiesIn r rs = (k : ℕ) → r.lo ≤ k → k < r.hi → IsTrue (in_ranges rs k)

-- there is room for some list in which the range lies
abbrev pub RoomFor : (List PageRange → Type 0) → PageRange → Type 0
RoomFor has_room r = (rs : List PageRange) × has_room rs × LiesIn r rs

-- each row's frame is one of the pool's that was taken
abbrev pub FramesTaken : Map Row → Pool → Type 0
FramesTaken rows pool = (k : ℕ) (w : Row) → at rows k ≡ Some w → (w.0.0 < pool.frames) × (member w.0.0 pool.free ≡ false)

-- no two rows have one frame
abbrev pub FramesApart : Map Row → Type 0
FramesApart rows = (j k : ℕ) (v w : Row) → at rows j ≡ Some v → at rows k ≡ Some w → v.0.0 ≡ w.0.0 → j ≡ k

-- each row's frame is one of the memory's
abbrev pub FramesIn : Map Row → List (List ℕ) → Type 0
FramesIn rows pages = (k : ℕ) (w : Row) → at rows k ≡ Some w → w.0.0 < length pages
