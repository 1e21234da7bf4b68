-- What the lightweight kernel keeps, in the words of the definitions: one process with what all share.
use Rattle.file_model.specs.Files.{Files}
use Rattle.hybrid_model.specs.Pairs.{Here}
use Rattle.hybrid_model.specs.Sides.{Caller as CallerOf, LinuxSide, LwkSide, Row, Side, Turn}
use Rattle.ikc_channel.specs.declared.Channel.{Channel}
use Rattle.kernel_tables.specs.Shown.{node_of}
use Rattle.lwk_side.specs.declared.kernel.Lwk.{Lwk}
use Rattle.lwk_side.specs.declared.task.Caller.{Caller}
use Rattle.lwk_side.specs.declared.task.Task.{Task}
use Rattle.lwk_space.specs.Frames.{frames_map}
use Rattle.mck_word.specs.Maps.{Map, each}
use Rattle.std.specs.Prelude.{None, option_map, ℕ}

-- what an event of the lightweight kernel isn't handed
pub record Rest : Type 0 where
  pub linux : LinuxSide
  pub files : Files
  pub turns : Map Turn
  pub workers : ℕ

abbrev pub shown_caller : Caller → CallerOf
shown_caller c = record { request = c.request.0; marked = c.marked }

module _ {T : Type 0} where
  -- what it keeps of a process, whose table has these rows
  abbrev pub lwk_of : Map Row → Task T → LwkSide
  lwk_of rows t = record { table = rows; noted = t.noted; begun = t.begun; changing = option_map (λ x. x.0) t.changing; callers = each shown_caller t.callers.map }

  abbrev pub side_of : Map Row → Task T → Channel → LinuxSide → Side
  side_of rows t c l = record { lwk = lwk_of rows t; linux = l; book = c.book.requests; round = c.round; to_linux = c.to_linux.messages; to_lwk = c.to_lwk.items }

  abbrev pub here_of : Lwk → Map Row → Task T → Channel → Rest → Here
  here_of lwk rows t c r = record {
    side = side_of rows t c r.linux;
    node = node_of lwk.node r.files;
    frames = frames_map lwk.frames;
    free = lwk.pool.free;
    turns = r.turns;
    last = lwk.last;
    cores = lwk.cores;
    workers = r.workers;
    rings = lwk.rings;
    born = None;
  }
