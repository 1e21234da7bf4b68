-- Pages lent for a run: what a run leaves of them.
use Rattle.hybrid_model.specs.Sides.{Row}
use Rattle.hybrid_model.specs.Spaces.{written_back}
use Rattle.lwk_space.specs.Frames.{frames_map}
use Rattle.lwk_space.specs.Lacks.{OthersStay, memory}
use Rattle.mck_word.specs.Maps.{Map, at}
use Rattle.std.specs.Prelude.{Bool, List, None, Option, Some, false, length, nat_lt, ℕ, ◌&&◌, ◌==◌, ◌^◌, ◌≡◌}

-- the frames that no row has stay, and no frame comes or goes
pub record Stays (rows : Map Row) (before after : List (List ℕ)) : Type 0 where
  pub others : OthersStay rows before after
  pub len : length after ≡ length before

-- the frames after are those before with the memory that the table shows written back
abbrev pub StoredTo : Map Row → List (List ℕ) → List (List ℕ) → Type 0
StoredTo rows before after = frames_map after ≡ written_back rows (memory rows after) (frames_map before)

abbrev pub has_frame : Option Row → ℕ → Bool
has_frame None k = false
has_frame (Some w) k = (w.0.0 == k) && nat_lt k (2 ^ 32)

-- the page has a row with the frame
abbrev pub is_frame : Map Row → ℕ → ℕ → Bool
is_frame rows k page = has_frame (at rows page) k
