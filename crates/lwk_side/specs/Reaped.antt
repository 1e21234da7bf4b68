-- What the end of a process makes of what its event isn't handed.
use Rattle.file_model.specs.Files.{close_all}
use Rattle.lwk_side.specs.Shown.{Rest}
use Rattle.mck_word.specs.Maps.{no_rows}
use Rattle.std.specs.Prelude.{ℕ}

-- its mirror is empty, and its descriptors are closed
abbrev pub reaped : ℕ → Rest → Rest
reaped p r = record r { linux = record r.linux { mirror = no_rows }; files = close_all p r.files }
