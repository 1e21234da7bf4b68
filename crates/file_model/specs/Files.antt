-- The files of the node: nodes of the tree, pipes, open descriptions, descriptors and consoles, each by its number. The lists and limits are this project's own; the words are those of man-pages (open, pipe).
-- Source: man-pages section 2 (open, pipe2); the limits are this project's own.
use Rattle.file_model.specs.declared.descriptions.Description.{Description}
use Rattle.file_model.specs.declared.descriptions.Target.{Target}
use Rattle.file_model.specs.declared.descriptions.Target.TheVariants.{OfNode, ReadEnd, WriteEnd, OfConsole}
use Rattle.mck_word.specs.Lists.{lowest_not_in}
use Rattle.mck_word.specs.Maps.{Map, at, put, cut, change, collect, keys, no_rows, some_row, total}
use Rattle.std.specs.Prelude.{ℕ, ◌+◌, ◌-◌, Bool, true, false, cond, ◌||◌, ◌==◌, List, [], length, is_some, nat_lt, unwrap_or, Option, Some, None, ℤ, pos, negsuc}

abbrev pub Name : Type 0
Name = List ℕ

-- A file or directory. It has a name in the directory `parent`, or none once it was unlinked; it lives on while it is open. The root is its own parent and has no name.
pub record Inode : Type 0 where
  pub parent : ℕ
  pub name : Option Name
  pub directory : Bool
  pub bytes : List ℕ

-- A guest's console: what is left of its input, and its output so far.
pub record Console : Type 0 where
  pub input : List ℕ
  pub output : List ℕ

-- `pipes` are the bytes of each pipe, `descriptors` the description of each descriptor of each process, `consoles` those of the guests.
pub record Files : Type 0 where
  pub nodes : Map Inode
  pub next_node : ℕ
  pub pipes : Map (List ℕ)
  pub descriptions : Map Description
  pub descriptors : Map (Map ℕ)
  pub consoles : Map Console

-- ---- limits

abbrev pub most_descriptors : ℕ
most_descriptors = 64

abbrev pub most_nodes : ℕ
most_nodes = 1_024

abbrev pub most_file_bytes : ℕ
most_file_bytes = 1_048_576

abbrev pub most_bytes_of_all_files : ℕ
most_bytes_of_all_files = 67_108_864

abbrev pub most_console_bytes : ℕ
most_console_bytes = 1_048_576

abbrev pub most_pipe_bytes : ℕ
most_pipe_bytes = 65_536

-- ---- the beginning: the root alone

abbrev pub root : ℕ
root = 1

abbrev pub empty_directory : ℕ → Option Name → Inode
empty_directory parent name = record { parent = parent; name = name; directory = true; bytes = [] }

abbrev pub root_only : Files
root_only = record {
  nodes = put no_rows root (empty_directory root None);
  next_node = 2;
  pipes = no_rows;
  descriptions = no_rows;
  descriptors = no_rows;
  consoles = no_rows;
}

-- ---- looking up

abbrev pub no_node : Inode
no_node = record { parent = 0; name = None; directory = false; bytes = [] }

abbrev pub node_of : Files → ℕ → Inode
node_of files n = unwrap_or (at files.nodes n) no_node

abbrev pub pipe_of : Files → ℕ → List ℕ
pipe_of files n = unwrap_or (at files.pipes n) []

abbrev pub console_of : Files → ℕ → Console
console_of files guest = unwrap_or (at files.consoles guest) (record { input = []; output = [] })

abbrev pub no_description : Description
no_description = record { target = OfConsole 0; readable = false; writable = false; append = false; offset = 0; calls = 0 }

abbrev pub description_of : Files → ℕ → Description
description_of files d = unwrap_or (at files.descriptions d) no_description

abbrev pub descriptors_of : Files → ℕ → Map ℕ
descriptors_of files process = unwrap_or (at files.descriptors process) no_rows

-- the number of the description that a descriptor of the process names
abbrev pub named_by : Files → ℕ → ℕ → Option ℕ
named_by files process fd = at (descriptors_of files process) fd

-- the same at a descriptor as a call gives it, which may be negative
abbrev pub described : Files → ℕ → ℤ → Option ℕ
described files process (negsuc n) = None
described files process (pos fd) = named_by files process fd

-- the least number that is no key
abbrev pub lowest_free : {V : Type 0} → Map V → ℕ
lowest_free m = lowest_not_in (keys m)

abbrev pub is_same_target : Target → Target → Bool
is_same_target (OfNode a) (OfNode b) = a == b
is_same_target (ReadEnd a) (ReadEnd b) = a == b
is_same_target (WriteEnd a) (WriteEnd b) = a == b
is_same_target (OfConsole a) (OfConsole b) = a == b
is_same_target _ _ = false

abbrev pub is_open : Files → Target → Bool
is_open files target = some_row (λ d (x : Description). is_same_target x.target target) files.descriptions

abbrev pub total_bytes : Files → ℕ
total_bytes files = total (λ (x : Inode). length x.bytes) files.nodes

-- ---- changing

-- what is there under a number is changed, and nothing where nothing is there
abbrev pub change_description : ℕ → (Description → Description) → Files → Files
change_description d f files = record files { descriptions = change files.descriptions d f }

abbrev pub change_node : ℕ → (Inode → Inode) → Files → Files
change_node n f files = record files { nodes = change files.nodes n f }

abbrev pub change_pipe : ℕ → (List ℕ → List ℕ) → Files → Files
change_pipe p f files = record files { pipes = change files.pipes p f }

abbrev pub change_console : ℕ → (Console → Console) → Files → Files
change_console guest f files = record files { consoles = change files.consoles guest f }

abbrev pub set_offset : ℕ → ℕ → Files → Files
set_offset d offset files = change_description d (λ (x : Description). record x { offset = offset }) files

abbrev pub set_bytes : ℕ → List ℕ → Files → Files
set_bytes n bytes files = change_node n (λ (x : Inode). record x { bytes = bytes }) files

-- a pipe without bytes, and a console
abbrev pub set_pipe : ℕ → List ℕ → Files → Files
set_pipe p bytes files = record files { pipes = put files.pipes p bytes }

abbrev pub set_console : ℕ → Console → Files → Files
set_console guest c files = record files { consoles = put files.consoles guest c }

-- a new description of the target under its lowest free number, and under the lowest free descriptor of the process
abbrev pub opened : ℕ → Target → Bool → Bool → Bool → Files → Files
opened process target readable writable append files =
    let d = lowest_free files.descriptions in
    let fds = descriptors_of files process in
    record files {
      descriptions = put files.descriptions d (record { target = target; readable = readable; writable = writable; append = append; offset = 0; calls = 0 });
      descriptors = put files.descriptors process (put fds (lowest_free fds) d);
    }

-- a new node without bytes, with a name in a directory; its number was never used
abbrev pub made : ℕ → Name → Bool → Files → Files
made parent name directory files = record files {
  nodes = put files.nodes files.next_node (record { parent = parent; name = Some name; directory = directory; bytes = [] });
  next_node = files.next_node + 1;
}

-- ---- what nobody names any more goes

abbrev pub is_named : Files → ℕ → Bool
is_named files d = some_row (λ process (fds : Map ℕ). some_row (λ fd named. named == d) fds) files.descriptors

abbrev pub used_description : Files → ℕ → Description → Option Description
used_description files d x = cond (nat_lt 0 x.calls || is_named files d) (Some x) None

abbrev pub without_unused_descriptions : Files → Files
without_unused_descriptions files = record files { descriptions = collect (used_description files) files.descriptions }

abbrev pub used_node : Files → ℕ → Inode → Option Inode
used_node files n x = cond (n == root || is_some x.name || is_open files (OfNode n)) (Some x) None

abbrev pub used_pipe : Files → ℕ → List ℕ → Option (List ℕ)
used_pipe files p bytes = cond (is_open files (ReadEnd p) || is_open files (WriteEnd p)) (Some bytes) None

abbrev pub without_unused_targets : Files → Files
without_unused_targets files = record files { nodes = collect (used_node files) files.nodes; pipes = collect (used_pipe files) files.pipes }

-- first the descriptions that no descriptor names and no call holds, then the unlinked nodes and the pipes that no description is open on
unfoldable pub settled : Files → Files
settled files = without_unused_targets (without_unused_descriptions files)

-- the files after a descriptor, and after all descriptors of a process, were closed
abbrev pub closed : ℕ → ℕ → Files → Files
closed process fd files = settled (record files { descriptors = put files.descriptors process (cut (descriptors_of files process) fd) })

abbrev pub close_all : ℕ → Files → Files
close_all process files = settled (record files { descriptors = cut files.descriptors process })

-- a call takes a description, or gives it back
abbrev pub hold : ℕ → Files → Files
hold d files = record files { descriptions = change files.descriptions d (λ (x : Description). record x { calls = x.calls + 1 }) }

abbrev pub leave : ℕ → Files → Files
leave d files = settled (record files { descriptions = change files.descriptions d (λ (x : Description). record x { calls = x.calls - 1 }) })

-- a child has its parent's descriptors, with the same descriptions
abbrev pub share : ℕ → ℕ → Files → Files
share parent child files = record files { descriptors = put files.descriptors child (descriptors_of files parent) }

-- a guest's console with that input, and the descriptors 0, 1 and 2 on it
abbrev pub with_console : ℕ → List ℕ → Files → Files
with_console guest input files =
    opened guest (OfConsole guest) false true false (opened guest (OfConsole guest) false true false (opened guest (OfConsole guest) true false false
    (set_console guest (record { input = input; output = [] }) files)))
