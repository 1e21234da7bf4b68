-- One process of the one-kernel machine with what all share, as the tables and its memory show it.
use Rattle.file_model.specs.Files.{Files, share}
use Rattle.isa_model.specs.Memory.{Memory}
use Rattle.kernel_model.specs.OneKernel.{Call, OneHere}
use Rattle.kernel_tables.specs.Shown.{node_of}
use Rattle.kernel_tables.specs.declared.tables.KernelTables.{KernelTables}
use Rattle.mck_word.specs.Maps.{Map, no_rows}
use Rattle.mck_word.specs.declared.Pid.{Pid}
use Rattle.std.specs.Prelude.{None, Option, Some, ℕ, ◌-◌}

-- what the tables and the memory don't hold: the files, the calls of the process's threads, and how many frames are
-- free
pub record Rest : Type 0 where
  pub files : Files
  pub calls : Map Call
  pub free : ℕ

abbrev pub here : KernelTables → Memory → Rest → OneHere
here node m r = record { own = record { memory = m; calls = r.calls }; node = node_of node r.files; free = r.free; born = None }

-- beside it the process that a fork makes, if it does, which has its parent's descriptors, and takes as many frames as
-- its parent had pages
abbrev pub here_with : KernelTables → Memory → Memory → ℕ → ℕ → Option Pid → Rest → OneHere
here_with node m child pages p None r = here node m r
here_with node m child pages p (Some q) r = record (here node m (record r { files = share p q.0 r.files; free = r.free - pages })) { born = Some (q.0, record { memory = child; calls = no_rows }) }
