-- Rows of page tables, and room for pages.
use Rattle.std.specs.Prelude.{ℕ, ◌-◌, ◌≤◌, ◌<◌, ◌^◌, ◌&&◌, IsTrue, List, [], ◌∷◌, is_none, is_some}
use Rattle.key_rows.specs.Table.{Table}
use Rattle.page_map.specs.Counts.{count_to}
use Rattle.mck_word.specs.declared.Frame.{Frame}
use Rattle.mck_word.specs.declared.PageRange.{PageRange}
use Rattle.mck_word.specs.Maps.{Map, at}
use Rattle.mck_word.specs.Pages.{in_ranges}
use Rattle.mck_flags.specs.declared.rights.Rights.{Rights}

abbrev pub PageRows : Type 0
PageRows = Map (Frame × Rights)

-- the ranges rise from lo on, are disjoint and end at 2^27 at most
abbrev pub RiseFrom : ℕ → List PageRange → Type 0
RiseFrom lo [] = Unit {0}
RiseFrom lo (r ∷ rs) = (lo ≤ r.lo) × (r.lo ≤ r.hi) × (r.hi ≤ 2 ^ 27) × RiseFrom r.hi rs

abbrev pub AreRanges : List PageRange → Type 0
AreRanges rs = RiseFrom 0 rs

-- there is room for some list with the page in it
abbrev pub RoomAt : (List PageRange → Type 0) → ℕ → Type 0
RoomAt has_room page = (rs : List PageRange) × has_room rs × IsTrue (in_ranges rs page)

-- the page has a row
abbrev pub IsThere : PageRows → ℕ → Type 0
IsThere m page = IsTrue (is_some (at m page))

-- no page from 2^27 on has a row
abbrev pub IsBelow : PageRows → Type 0
IsBelow m = (page : ℕ) → IsThere m page → page < 2 ^ 27

abbrev pub size_of_range : PageRange → ℕ
size_of_range r = r.hi - r.lo

-- how many pages of the ranges have no row
abbrev pub missing : PageRows → List PageRange → ℕ
missing m rs = count_to (λ p. in_ranges rs p && is_none (at m p)) (2 ^ 27)

-- a sorted list has room for the ranges where it has a place for each page that has no row
abbrev pub FitsIn : Table (Frame × Rights) → List PageRange → Type 0
FitsIn t rs = missing t.map rs ≤ t.spare
