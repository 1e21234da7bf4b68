-- The nodes with names in the order of their tags.
use Rattle.file_model.specs.Files.{Inode, Name}
use Rattle.file_tree.specs.Tags.{Tag, tag_at, tag_cmp, tag_in}
use Rattle.file_tree.specs.declared.index.Listed.{Listed}
use Rattle.mck_word.specs.Maps.{Map, at}
use Rattle.std.specs.FinMap.Entries.{find, is_sorted}
use Rattle.std.specs.List.{AllByRecursion}
use Rattle.std.specs.Prelude.{List, None, Option, Some, T, cond, filter_map, map, ℕ, ◌==◌, ◌≡◌}

abbrev pub tagged : Map Inode → List Listed → List (Tag × ℕ)
tagged m rows = map (λ (e : Listed). (tag_at m e.node, e.node)) rows

-- a node with a name is listed with its key
abbrev pub IsListed : Map Inode → Map ℕ → Listed → Type 0
IsListed m keys e = (at keys e.node ≡ Some e.key) × (tag_in m e.node ≡ Some (tag_at m e.node))

-- the list has each node with a name, once, and its tags rise
pub record IsIndex (m : Map Inode) (keys : Map ℕ) (rows : List Listed) : Type 0 where
  pub each : AllByRecursion (IsListed m keys) rows
  pub rises : T (is_sorted tag_cmp (tagged m rows))
  pub listed : (n : ℕ) (tag : Tag) → tag_in m n ≡ Some tag → find tag_cmp tag (tagged m rows) ≡ Some n

-- the name of an entry, where it is one of the directory, and all such names
abbrev pub name_under : ℕ → Tag × ℕ → Option Name
name_under directory e = cond (e.0.0 == directory) (Some e.0.1) None

abbrev pub names_under : ℕ → List (Tag × ℕ) → List Name
names_under directory es = filter_map (name_under directory) es
