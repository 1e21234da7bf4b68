-- Paths: their names, where they lead in the tree, and the path of a node (man-pages path_resolution; the order of errors is this project's own).
-- Source: man-pages section 7 (path_resolution); the order of errors is this project's own.
use Rattle.file_model.specs.Errno.{ENOENT, EBADF, ENOTDIR, ENAMETOOLONG}
use Rattle.file_model.specs.Files.{Files, Inode, Name, described, description_of, made, node_of, root, set_bytes}
use Rattle.file_model.specs.declared.descriptions.Target.{Target}
use Rattle.file_model.specs.declared.descriptions.Target.TheVariants.{OfNode, ReadEnd, WriteEnd, OfConsole}
use Rattle.mck_word.specs.Lists.{sorted_by}
use Rattle.mck_word.specs.Maps.{count, entries}
use Rattle.std.specs.Cmp.Lexicographic.{slice_cmp}
use Rattle.std.specs.List.{filter_map}
use Rattle.std.specs.Ordering.{nat_cmp, is_lt}
use Rattle.std.specs.Prelude.{ℕ, zero, suc, Bool, true, false, not, cond, ◌&&◌, ◌==◌, List, [], ◌∷◌, ◌++◌, filter, length, find, Option, Some, None, option_map, bytes_eq, nat_lt, get_or, ◌-◌, ℤ, pos, negsuc}

abbrev pub slash : ℕ
slash = 47

abbrev pub dot : Name
dot = 46 ∷ []

abbrev pub dot_dot : Name
dot_dot = 46 ∷ 46 ∷ []

-- ---- the text of a path and its names

-- the runs of bytes between the slashes, empty ones among them
abbrev pub runs : List ℕ → List ℕ → List Name
runs run [] = run ∷ []
runs run (b ∷ bs) = cond (b == slash) (run ∷ runs [] bs) (runs (run ++ b ∷ []) bs)

-- the names of a path's text; empty names are passed over
abbrev pub names_of : List ℕ → List Name
names_of text = filter (λ n. not (length n == 0)) (runs [] text)

-- names of `.` are passed over
abbrev pub without_dots : List Name → List Name
without_dots names = filter (λ n. not (bytes_eq n dot)) names

abbrev pub is_absolute : List ℕ → Bool
is_absolute [] = false
is_absolute (b ∷ bs) = b == slash

abbrev pub ends_with_slash : List ℕ → Bool
ends_with_slash text = nat_lt 0 (length text) && get_or text (length text - 1) 0 == slash

-- the first stands before the second in the order of bytes
abbrev pub bytes_before : List ℕ → List ℕ → Bool
bytes_before a b = is_lt (slice_cmp nat_cmp a b)

-- ---- the tree

abbrev pub is_named_as : Name → Option Name → Bool
is_named_as name None = false
is_named_as name (Some n) = bytes_eq n name

abbrev pub stands_as : ℕ → Name → Inode → Bool
stands_as directory name x = x.parent == directory && is_named_as name x.name

-- the node with that name in a directory
abbrev pub child : Files → ℕ → Name → Option ℕ
child files directory name = option_map (λ (e : ℕ × Inode). e.0) (find (λ (e : ℕ × Inode). stands_as directory name e.1) (entries files.nodes))

abbrev pub name_in : ℕ → ℕ × Inode → Option Name
name_in directory e = cond (e.1.parent == directory) e.1.name None

-- the names in a directory, in the order of bytes
abbrev pub names_in : Files → ℕ → List Name
names_in files directory = sorted_by bytes_before (filter_map (name_in directory) (entries files.nodes))

-- the path of a node in at most so many names: a slash before each, and nothing for the root
abbrev pub below : List ℕ → Option Name → List ℕ
below path None = []
below path (Some name) = path ++ (slash ∷ name)

abbrev pub path_up : ℕ → Files → ℕ → List ℕ
path_up zero files n = []
path_up (suc most) files n = below (path_up most files (node_of files n).parent) (node_of files n).name

abbrev pub path_of : Files → ℕ → List ℕ
path_of files n = path_up (count files.nodes) files n

-- ---- where a path leads

-- a node, a name that is missing in a directory that is there, or an error
pub data Place : Type 0 where
  Present : (node : ℕ) → Place
  Absent : (directory : ℕ) → Name → Place
  NoPlace : (errno : ℕ) → Place

-- name by name from a node
abbrev pub walk_names : Files → ℕ → List Name → Place
walk_names files here [] = Present here
walk_names files here (name ∷ rest) =
    cond (nat_lt 255 (length name)) (NoPlace ENAMETOOLONG)
    (cond (not (node_of files here).directory) (NoPlace ENOTDIR)
    (cond (bytes_eq name dot_dot) (walk_names files (node_of files here).parent rest)
    (elim (child files here name) [
      | None ↦ cond (length rest == 0) (Absent here name) (NoPlace ENOENT)
      | Some n ↦ walk_names files n rest
    ])))

-- where a relative path starts
pub data Start : Type 0 where
  StartAt : (node : ℕ) → Start
  NoStart : (errno : ℕ) → Start

abbrev pub is_unlinked : ℕ → Option Name → Bool
is_unlinked n None = not (n == root)
is_unlinked n (Some name) = false

abbrev pub start_at_node : Files → ℕ → Start
start_at_node files n = let x = node_of files n in
    cond (not x.directory) (NoStart ENOTDIR) (cond (is_unlinked n x.name) (NoStart ENOENT) (StartAt n))

abbrev pub start_at_target : Files → Target → Start
start_at_target files (OfNode n) = start_at_node files n
start_at_target files (ReadEnd n) = NoStart ENOTDIR
start_at_target files (WriteEnd n) = NoStart ENOTDIR
start_at_target files (OfConsole n) = NoStart ENOTDIR

-- the descriptor -100 stands for the root
abbrev pub stands_for_root : ℤ → Bool
stands_for_root (pos fd) = false
stands_for_root (negsuc n) = n == 99

abbrev pub start_at_descriptor : Files → ℕ → ℤ → Start
start_at_descriptor files process fd = cond (stands_for_root fd) (StartAt root)
    (elim (described files process fd) [ None ↦ NoStart EBADF | Some d ↦ start_at_target files (description_of files d).target ])

abbrev pub start_of : Files → ℕ → ℤ → List ℕ → Start
start_of files process dirfd text = cond (is_absolute text) (StartAt root) (start_at_descriptor files process dirfd)

-- the place to which the names lead from the start
abbrev pub place_of_names : Files → ℕ → ℤ → List ℕ → List Name → Place
place_of_names files process dirfd text names = elim (start_of files process dirfd text) [
  | NoStart errno ↦ NoPlace errno
  | StartAt n ↦ cond (length text == 0) (NoPlace ENOENT) (walk_names files n (without_dots names))
]

-- a final slash on a file is an error
abbrev pub checked_slash : Files → List ℕ → Place → Place
checked_slash files text (Present n) = cond (ends_with_slash text && not (node_of files n).directory) (NoPlace ENOTDIR) (Present n)
checked_slash files text (Absent directory name) = Absent directory name
checked_slash files text (NoPlace errno) = NoPlace errno

abbrev pub place_of : Files → ℕ → ℤ → List ℕ → Place
place_of files process dirfd text = checked_slash files text (place_of_names files process dirfd text (names_of text))

-- ---- a file of the job

-- the directories above the last name are made where they are missing, then the file with its bytes
abbrev pub add_file : ℕ → List Name → List ℕ → Files → Files
add_file here [] bytes files = files
add_file here (name ∷ []) bytes files = set_bytes files.next_node bytes (made here name false files)
add_file here (name ∷ next ∷ names) bytes files = elim (child files here name) [
  | None ↦ add_file files.next_node (next ∷ names) bytes (made here name true files)
  | Some n ↦ add_file n (next ∷ names) bytes files
]

abbrev pub with_file : List ℕ → List ℕ → Files → Files
with_file path bytes files = add_file root (names_of path) bytes files
