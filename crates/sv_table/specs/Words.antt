-- The words of a table: entries of 64 bits, and nodes of 512 entries.
use Rattle.mck_flags.specs.declared.rights.Rights.{Rights}
use Rattle.mck_word.specs.declared.Frame.{Frame}
use Rattle.std.specs.Prelude.{ℕ, ◌+◌, ◌*◌, ◌/◌, ◌%◌, ◌<◌, ◌==◌, ◌≡◌, Bool, cond, IsTrue, List, Option, None, Some, count_by, length, replicate, slice_index}

-- bit 0 tells that an entry is present
abbrev pub is_present : ℕ → Bool
is_present w = w % 2 == 1

-- the entry of a page: present, the rights from bit 1 on, the frame from bit 10 on
abbrev pub entry_of_page : Frame → Rights → ℕ
entry_of_page f r = 1 + 2 * r.0 + 1024 * f.0

-- the entry of a node below: present, and its key from bit 10 on
abbrev pub entry_of_node : ℕ → ℕ
entry_of_node key = 1 + 1024 * key

-- what an entry says of its page, and of the node below
unfoldable pub page_in : ℕ → Option (Frame × Rights)
page_in w = cond (is_present w) (Some (record { 0 = w / 1024 }, record { 0 = w / 2 % 256 })) None

unfoldable pub node_in : ℕ → Option ℕ
node_in w = cond (is_present w) (Some (w / 1024)) None

-- a node with no entry
abbrev pub empty_node : List ℕ
empty_node = replicate 512 0

-- some entry of the node is present
abbrev pub HasEntry : List ℕ → Type 0
HasEntry words = (i : ℕ) × (i < 512) × IsTrue (is_present (slice_index words i))

-- how a node keeps its words: 512 of them, and how many are present
pub record IsCounted (words : List ℕ) (used : ℕ) : Type 0 where
  pub long : length words ≡ 512
  pub counted : used ≡ count_by is_present words
