-- The two kernels with nothing in them. A node that says nothing else begins there.
use Rattle.hybrid_model.specs.Pairs.{Pair}
use Rattle.mck_word.specs.Maps.{no_rows}
use Rattle.std.specs.Prelude.{[]}

abbrev pub nowhere : Pair
nowhere = record {
  node = record {
    processes = no_rows;
    threads = no_rows;
    sleepers = [];
    files = record { nodes = no_rows; next_node = 0; pipes = no_rows; descriptions = no_rows; descriptors = no_rows; consoles = no_rows };
    unsent = [];
    next_number = 0;
    frame_count = 0;
    limit = 0;
  };
  sides = no_rows;
  frames = no_rows;
  free = [];
  turns = no_rows;
  last = no_rows;
  cores = 0;
  workers = 0;
  rings = 0;
}
