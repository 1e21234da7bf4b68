-- The tree and what each call makes of it.
use Rattle.file_model.specs.Files.{Files, Inode, no_node, root, root_only}
use Rattle.file_tree.specs.Counting.{count_in}
use Rattle.file_tree.specs.Index.{IsIndex}
use Rattle.file_tree.specs.Tables.{NodeTable, TreeTable}
use Rattle.file_tree.specs.declared.index.Listed.{Listed}
use Rattle.mck_word.specs.Maps.{Map, at, cut, total}
use Rattle.std.specs.Prelude.{Bool, IfSome, List, None, Option, Some, cond, is_some, length, max, nat_lt, true, unwrap_or, ℕ, ◌+◌, ◌-◌, ◌<◌, ◌==◌, ◌^◌, ◌||◌, ◌≡◌, ◌≤◌}

-- files that are the tree alone
abbrev pub files_of : TreeTable → Files
files_of t = record root_only { nodes = t.map; next_node = t.next }

-- a node, and the bytes of all files
abbrev pub node_in : Map Inode → ℕ → Inode
node_in m n = unwrap_or (at m n) no_node

abbrev pub bytes_in : Map Inode → ℕ
bytes_in m = total (λ (x : Inode). length x.bytes) m

-- a node lives where it is the root, has a name, or is held
abbrev pub used_by : Map ℕ → ℕ → Inode → Bool
used_by holds n x = n == root || is_some x.name || nat_lt 0 (count_in holds n)

abbrev pub used_row : Map ℕ → ℕ → Option Inode → Bool
used_row holds n None = true
used_row holds n (Some x) = used_by holds n x

-- the nodes without that one, where it doesn't live any more
abbrev pub settled_at : Map ℕ → ℕ → Map Inode → Map Inode
settled_at holds n m = cond (used_row holds n (at m n)) m (cut m n)

abbrev pub NodesUsed : Map ℕ → Map Inode → Type 0
NodesUsed holds m = (n : ℕ) (x : Inode) → at m n ≡ Some x → used_by holds n x ≡ true

-- a file can be written up to that end: it has memory for it, and the bytes of all files can be told
pub record CanWrite (m : Map Inode) (rooms : Map ℕ) (n end : ℕ) : Type 0 where
  pub room : IfSome (at rooms n) (λ most. end ≤ most)
  pub total : let before = length (node_in m n).bytes in bytes_in m - before + max before end < 2 ^ 64

-- what the tree keeps: the index of names, the running count of bytes, and that each node lives
pub record IsTree (nodes : NodeTable) (names : List Listed) (holds : Map ℕ) (sum : ℕ) : Type 0 where
  pub index : IsIndex nodes.map nodes.keys names
  pub bytes : sum ≡ bytes_in nodes.map
  pub used : NodesUsed holds nodes.map
  pub few : length names ≤ 2 ^ 32
