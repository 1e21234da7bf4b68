-- Lines of 16 slots beside the words of a code page.
use Rattle.std.specs.Prelude.{ℕ, ◌≡◌, ◌≢◌, ◌≤◌, ◌<◌, ◌+◌, ◌*◌, ◌/◌, Bool, true, false, List, Option, slice_index_or}
use Rattle.rv64i_user.specs.Places.{word_in}
use Rattle.rv64i_user.specs.declared.slots.Slot.{Slot}

-- the slots of a line have the words of the page's bytes
abbrev pub HasLine : List Slot → Option (List ℕ) → ℕ → Type 0
HasLine slots code line = (k : ℕ) (d : Slot) → line * 16 ≤ k → k < line * 16 + 16 → (slice_index_or slots k d).word ≡ word_in code (4 * k)

-- the slots of every other line are the same
abbrev pub SameElsewhere : List Slot → List Slot → ℕ → Type 0
SameElsewhere old new line = (k : ℕ) (d : Slot) → k / 16 ≢ line → slice_index_or new k d ≡ slice_index_or old k d

-- each line that is marked has the words of the page's bytes
abbrev pub HasMarked : List Bool → List Slot → Option (List ℕ) → Type 0
HasMarked marked slots code = (l : ℕ) → l < 64 → slice_index_or marked l false ≡ true → HasLine slots code l
