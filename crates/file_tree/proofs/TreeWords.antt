-- The words on names, in the index that a tree keeps.
use Rattle.file_model.specs.Files.{Inode, Name}
use Rattle.file_model.specs.Paths.{bytes_before, name_in, stands_as}
use Rattle.file_tree.proofs.IndexEdits.{index-found}
use Rattle.file_tree.proofs.Named.{child-is, names-are}
use Rattle.file_tree.specs.Index.{IsIndex, names_under, tagged}
use Rattle.file_tree.specs.Tags.{tag_cmp}
use Rattle.file_tree.specs.declared.index.Listed.{Listed}
use Rattle.mck_word.specs.Lists.{sorted_by}
use Rattle.mck_word.specs.Maps.{Map, entries}
use Rattle.std.specs.FinMap.Entries.{find as look_up}
use Rattle.std.specs.Prelude.{List, filter_map, find, option_map, ℕ, ◌≡◌}

module _ (m : Map Inode) (keys : Map ℕ) (rows : List Listed) (h : IsIndex m keys rows) where
  pub index-child : (d : ℕ) (name : Name) → option_map (λ (e : ℕ × Inode). e.0) (find (λ (e : ℕ × Inode). stands_as d name e.1) (entries m)) ≡ look_up tag_cmp (d, name) (tagged m rows)
  index-child d name = child-is m (tagged m rows) h.rises (index-found m keys rows h.each) h.listed d name

  pub index-names : (d : ℕ) → sorted_by bytes_before (filter_map (name_in d) (entries m)) ≡ names_under d (tagged m rows)
  index-names d = names-are m (tagged m rows) h.rises (index-found m keys rows h.each) h.listed d
