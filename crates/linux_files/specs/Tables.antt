-- What contracts see of pipes and consoles.
use Rattle.file_model.specs.Files.{Console}
use Rattle.mck_word.specs.Maps.{Map}
use Rattle.std.specs.Prelude.{List, ℕ}

-- the bytes of the pipes, for how many bytes each has room, and for how many pipes there is room
pub record PipeTable : Type 0 where
  pub map : Map (List ℕ)
  pub rooms : Map ℕ
  pub spare : ℕ

-- a console, and for how many bytes of output it has room
pub record ConsoleRow : Type 0 where
  pub console : Console
  pub room : ℕ

-- the consoles by their guests, for how many bytes of output each has room, and for how many there is room
pub record ConsoleTable : Type 0 where
  pub map : Map Console
  pub rooms : Map ℕ
  pub spare : ℕ
