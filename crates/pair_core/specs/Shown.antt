-- The two kernels that the parts show.
use Rattle.file_model.specs.Files.{Files}
use Rattle.hybrid_model.specs.Pairs.{Here, Pair}
use Rattle.hybrid_model.specs.Sides.{Row, Side as SideOf}
use Rattle.kernel_tables.specs.Shown.{node_of}
use Rattle.lwk_side.specs.Shown.{Rest, here_of, side_of}
use Rattle.lwk_space.specs.Frames.{frames_map}
use Rattle.mck_word.specs.Maps.{Map, each}
use Rattle.pair_core.specs.declared.parts.Parts.{Parts}
use Rattle.pair_core.specs.declared.parts.Side.{Side}
use Rattle.proxy_worker.specs.Shown.{linux_of, turns_of}

module _ {T : Type 0} (rows : T → Map Row) where
  -- what both kernels keep of a process
  abbrev pub shown_side : Side T → SideOf
  shown_side s = side_of (rows s.task.space.table) s.task s.channel (linux_of s.proxy)

  module _ {F : Type 0} (files : F → Files) where
    unfoldable pub pair_of : Parts T F → Pair
    pair_of x = record {
      node = node_of x.lwk.node (files x.files);
      sides = each shown_side x.sides.map;
      frames = frames_map x.lwk.frames;
      free = x.lwk.pool.free;
      turns = turns_of x.turns;
      last = x.lwk.last;
      cores = x.lwk.cores;
      workers = x.workers;
      rings = x.lwk.rings;
    }

    -- what an event of the lightweight kernel isn't handed
    abbrev pub rest_of : Parts T F → Side T → Rest
    rest_of x s = record { linux = linux_of s.proxy; files = files x.files; turns = turns_of x.turns; workers = x.workers }

    -- one process with what all share
    abbrev pub here_in : Parts T F → Side T → Here
    here_in x s = here_of x.lwk (rows s.task.space.table) s.task s.channel (rest_of x s)
