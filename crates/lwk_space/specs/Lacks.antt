-- The first page that a range of bytes lacks, and memory through a table.
use Rattle.hybrid_model.specs.Sides.{Row, looked_up}
use Rattle.hybrid_model.specs.Spaces.{shown_memory}
use Rattle.isa_model.specs.Memory.{Memory, lacks}
use Rattle.isa_model.specs.declared.stops.Lack.{Lack}
use Rattle.lwk_space.specs.Frames.{frames_map}
use Rattle.mck_word.specs.Maps.{Map, at}
use Rattle.mck_word.specs.declared.Access.{Access}
use Rattle.std.specs.Prelude.{IsSome, List, None, Some, [], false, slice_index_or, true, ℕ, ◌*◌, ◌+◌, ◌/◌, ◌^◌, ◌<◌, ◌≡◌, ◌≢◌, ◌≤◌}

-- of the pages that n bytes from an address on touch, the first that is absent or lacks the right
pub record IsFirstLack (m : Memory) (a : Access) (address n : ℕ) (l : Lack) : Type 0 where
  pub some : 1 ≤ n
  pub access : l.access ≡ a
  pub from : address / 4096 ≤ l.page
  pub to : l.page * 4096 < address + n
  pub lacking : lacks m a l.page ≡ true
  pub first : (p : ℕ) → address / 4096 ≤ p → p < l.page → lacks m a p ≡ false

-- the pages of a table with their frames' bytes
abbrev pub memory : Map Row → List (List ℕ) → Memory
memory rows pages = shown_memory rows (frames_map pages)

-- no row has the frame
abbrev pub NoRowHas : Map Row → ℕ → Type 0
NoRowHas rows f = (k : ℕ) (w : Row) → at rows k ≡ Some w → w.0.0 ≢ f

-- the frames that no row has stay
abbrev pub OthersStay : Map Row → List (List ℕ) → List (List ℕ) → Type 0
OthersStay rows before after = (f : ℕ) → NoRowHas rows f → slice_index_or after f [] ≡ slice_index_or before f []

-- no page of a table from `first` on, up to `end`, is absent or lacks the right
abbrev pub NoneLacks : Map Row → Access → ℕ → ℕ → Type 0
NoneLacks rows a first end = (p : ℕ) → first ≤ p → p < end → IsSome (looked_up (at rows p) a) × (p < 2 ^ 27)

-- page l is the first of those from `first` on that is absent or lacks the right
pub record FirstLacks (rows : Map Row) (a : Access) (first l : ℕ) : Type 0 where
  pub from : first ≤ l
  pub lacking : looked_up (at rows l) a ≡ None
  pub before : NoneLacks rows a first l

-- each page that n bytes from an address on touch is present and has the right
abbrev pub Allowed : Map Row → Access → ℕ → ℕ → Type 0
Allowed rows a address n = (p : ℕ) → 1 ≤ n → address / 4096 ≤ p → p * 4096 < address + n → IsSome (looked_up (at rows p) a) × (p < 2 ^ 27)

pub record Refused (rows : Map Row) (a : Access) (address n : ℕ) (l : Lack) : Type 0 where
  pub some : 1 ≤ n
  pub access : l.access ≡ a
  pub to : l.page * 4096 < address + n
  pub first : FirstLacks rows a (address / 4096) l.page
