-- What a contract sees of the nodes.
use Rattle.file_model.specs.Files.{Inode}
use Rattle.mck_word.specs.Maps.{Map}
use Rattle.std.specs.Prelude.{ℕ}

-- the nodes, the next number, and for how many nodes there is room
pub record NodeTable : Type 0 where
  pub map : Map Inode
  pub next : ℕ
  pub spare : ℕ

-- how many nodes are ever made at most
abbrev pub most_numbers : ℕ
most_numbers = 4_294_967_296
