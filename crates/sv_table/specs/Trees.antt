-- What a table keeps of its nodes: each but the root stands below one entry, and has an entry.
use Rattle.slab.specs.Slab.{Slab, get}
use Rattle.std.specs.Prelude.{ℕ, ◌≡◌, ◌≢◌, ◌⊎◌, ◌+◌, ◌*◌, ◌^◌, ◌<◌, ◌≤◌, true, List, Some, length, is_some, slice_index}
use Rattle.sv_table.specs.Walks.{Nodes, word}
use Rattle.sv_table.specs.Words.{HasEntry, entry_of_node}

module _ (node : Nodes) (home : ℕ → ℕ) where
  -- the word leads to the node of the place
  pub record Link (place w : ℕ) : Type 0 where
    pub key : ℕ
    pub is : w ≡ entry_of_node key
    pub there : is_some (node key) ≡ true
    pub placed : home key ≡ place

  -- the node that leads to a node
  pub record Above (key : ℕ) : Type 0 where
    pub parent : ℕ
    pub index : ℕ
    pub below : index < 512
    pub inner : home parent < 513
    pub there : is_some (node parent) ≡ true
    pub placed : home key ≡ 512 * home parent + 1 + index
    pub linked : word node parent index ≡ entry_of_node key

-- the word is the entry of some page
pub record Row (w : ℕ) : Type 0 where
  pub frame : ℕ
  pub rights : ℕ
  pub small : frame < 2 ^ 32
  pub few : rights < 256
  pub is : w ≡ 1 + 2 * rights + 1024 * frame

abbrev pub IsEntry : ℕ → Type 0
IsEntry w = (w ≡ 0) ⊎ Row w

-- what a node keeps, with `home` giving each key its place; the node `open_key` may be without an entry
pub record Kept (node : Nodes) (home : ℕ → ℕ) (open_key key : ℕ) (words : List ℕ) : Type 0 where
  pub small : key < 2 ^ 32
  pub placed : home key < 262657
  pub long : length words ≡ 512
  pub inner : home key < 513 → (i : ℕ) → i < 512 → (slice_index words i ≡ 0) ⊎ Link node home (512 * home key + 1 + i) (slice_index words i)
  pub outer : 513 ≤ home key → (i : ℕ) → i < 512 → IsEntry (slice_index words i)
  pub up : key ≢ 0 → Above node home key
  pub full : key ≢ 0 → key ≢ open_key → HasEntry words

pub record Tree (node : Nodes) (home : ℕ → ℕ) (open_key : ℕ) : Type 0 where
  pub root : is_some (node 0) ≡ true
  pub top : home 0 ≡ 0
  pub each : (key : ℕ) (words : List ℕ) → node key ≡ Some words → Kept node home open_key key words

-- a table, but for one node that may be without an entry
pub record IsOpenTree (node : Nodes) (open_key : ℕ) : Type 0 where
  pub home : ℕ → ℕ
  pub tree : Tree node home open_key

abbrev pub IsTree : Nodes → Type 0
IsTree node = IsOpenTree node 0

-- a table in its slab: each key that may come fits in 32 bits
pub record IsTable (nodes : Slab (List ℕ)) : Type 0 where
  pub tree : IsTree (get nodes)
  pub few : nodes.capacity ≤ 2 ^ 32
