-- The nodes by their numbers: what stands in the slab under the keys.
use Rattle.file_model.specs.Files.{no_node}
use Rattle.file_tree.specs.Tables.{NodeRow, most_numbers}
use Rattle.mck_word.specs.Maps.{Map, at, each}
use Rattle.slab.specs.Slab.{Slab, get}
use Rattle.std.specs.Prelude.{Some, option_map, unwrap_or, ℕ, ◌<◌, ◌≡◌, ◌≤◌}

abbrev pub no_row : NodeRow
no_row = record { number = 0; inode = no_node; room = 0 }

abbrev pub row_at : Slab NodeRow → ℕ → NodeRow
row_at slab key = unwrap_or (get slab key) no_row

abbrev pub shown : {W : Type 0} → (NodeRow → W) → Slab NodeRow → Map ℕ → Map W
shown f slab keys = each (λ (key : ℕ). f (row_at slab key)) keys

-- under the key of each number stands the node with that number; all numbers are below the next
pub record AreStored (slab : Slab NodeRow) (keys : Map ℕ) (next : ℕ) : Type 0 where
  pub stored : (n key : ℕ) → at keys n ≡ Some key → option_map (λ (r : NodeRow). r.number) (get slab key) ≡ Some n
  pub below : (n key : ℕ) → at keys n ≡ Some key → n < next
  pub most : next ≤ most_numbers
