-- What contracts see of the tree and its parts.
use Rattle.file_model.specs.Files.{Inode}
use Rattle.mck_word.specs.Maps.{Map}
use Rattle.std.specs.Prelude.{ℕ}

-- the counts, for how many more numbers there is room, and how often a count can still be raised
pub record Tally : Type 0 where
  pub counts : Map ℕ
  pub spare : ℕ
  pub left : ℕ

-- a node with its number, and how many bytes it has memory for
pub record NodeRow : Type 0 where
  pub number : ℕ
  pub inode : Inode
  pub room : ℕ

-- how many nodes are ever made at most
abbrev pub most_numbers : ℕ
most_numbers = 4_294_967_296

-- The nodes by their numbers, for how many bytes each has room and where it stands, the next number, and how many nodes can be
-- made with the room that there is.
pub record NodeTable : Type 0 where
  pub map : Map Inode
  pub rooms : Map ℕ
  pub keys : Map ℕ
  pub next : ℕ
  pub spare : ℕ

-- The nodes by their numbers, for how many bytes each has room, the next number, for how many nodes there is room, how
-- often each node is held, how many more there is room for, and how often a node can still be held.
pub record TreeTable : Type 0 where
  pub map : Map Inode
  pub rooms : Map ℕ
  pub next : ℕ
  pub spare : ℕ
  pub holds : Map ℕ
  pub spare_holds : ℕ
  pub left_holds : ℕ
