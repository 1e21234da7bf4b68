-- Room for the pages of a guest.
use Rattle.job_model.specs.declared.image.Segment.{Segment}
use Rattle.kernel_model.specs.Pages.{pages_of, range}
use Rattle.lwk_boot.specs.Guests.{first_page, segment_at, stack_first}
use Rattle.lwk_space.specs.Rows.{LiesIn}
use Rattle.mck_word.specs.declared.PageRange.{PageRange}
use Rattle.std.specs.Prelude.{List, [], ◌∷◌, length, ℕ, ◌<◌, ◌^◌, ◌≤◌}

-- the stack's pages and the trampoline's
abbrev pub top_range : PageRange
top_range = range stack_first 0x4000000

-- each page of a guest lies in the ranges
pub record LieIn (segments : List Segment) (ranges : List PageRange) : Type 0 where
  pub each : (k : ℕ) → k < length segments → LiesIn (pages_of (segment_at segments k).addr (segment_at segments k).mem) ranges
  pub top : LiesIn top_range ranges

-- there is room for ranges in which a guest's pages lie
abbrev pub HasRoom : (List PageRange → Type 0) → List Segment → Type 0
HasRoom has_room segments = (rs : List PageRange) × has_room rs × LieIn segments rs

-- the ranges rise from lo on, are disjoint and end at 2^27 at most, and the last one at `end`
abbrev pub RiseTo : ℕ → List PageRange → ℕ → Type 0
RiseTo lo [] end = lo ≤ end
RiseTo lo (r ∷ rs) end = (lo ≤ r.lo) × (r.lo ≤ r.hi) × (r.hi ≤ 2 ^ 27) × RiseTo r.hi rs end

-- each segment that begins below the page lies in the ranges
abbrev pub LieBelow : List Segment → ℕ → List PageRange → Type 0
LieBelow segments page ranges = (k : ℕ) → k < length segments → first_page (segment_at segments k) < page → LiesIn (pages_of (segment_at segments k).addr (segment_at segments k).mem) ranges
