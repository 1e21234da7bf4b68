-- The names in a directory, over the nodes.
use Rattle.file_model.specs.Files.{Inode, Name}
use Rattle.file_model.specs.Paths.{bytes_before, name_in, stands_as}
use Rattle.one_files.specs.Slotted.{passes}
use Rattle.std.specs.List.{filter_map, list_any}
use Rattle.std.specs.Prelude.{Bool, List, None, Option, cond, count_by, find, is_some, nat_le, nat_lt, not, option_map, ℕ, ◌==◌, ◌&&◌}

-- the name of a node, where it stands in that directory
abbrev pub name_below : ℕ → Inode → Option Name
name_below directory x = cond (x.parent == directory) x.name None

-- the number of the node with that name in a directory
abbrev pub child_in : List (ℕ × Inode) → ℕ → Name → Option ℕ
child_in rows directory name = option_map (λ (e : ℕ × Inode). e.0) (find (λ (e : ℕ × Inode). stands_as directory name e.1) rows)

-- whether a directory has a name in it
abbrev pub some_name : List (ℕ × Inode) → ℕ → Bool
some_name rows directory = list_any (λ (e : ℕ × Inode). is_some (name_below directory e.1)) rows

-- the names in a directory, by their nodes' numbers
abbrev pub names_by_number : List (ℕ × Inode) → ℕ → List Name
names_by_number rows directory = filter_map (name_in directory) rows

-- how many names of a directory stand before a name, and how many don't stand behind it
abbrev pub before : List (ℕ × Inode) → ℕ → Name → ℕ
before rows directory name = count_by (λ (e : ℕ × Inode). passes (λ n. bytes_before n name) (name_below directory e.1)) rows

abbrev pub up_to : List (ℕ × Inode) → ℕ → Name → ℕ
up_to rows directory name = count_by (λ (e : ℕ × Inode). passes (λ n. not (bytes_before name n)) (name_below directory e.1)) rows

-- whether the k-th name in order is that one
abbrev pub is_kth : List (ℕ × Inode) → ℕ → ℕ → Name → Bool
is_kth rows directory k name = nat_le (before rows directory name) k && nat_lt k (up_to rows directory name)
