-- What the definitions see of the store.
use Rattle.file_calls.specs.Rooms.{Room}
use Rattle.file_model.specs.Files.{Files}
use Rattle.file_model.specs.declared.descriptions.Target.{Target}
use Rattle.mck_word.specs.Maps.{count}
use Rattle.one_files.specs.declared.RowFiles.{RowFiles}
use Rattle.std.specs.Prelude.{◌-◌, ◌^◌, ◌≤◌, min, ℕ}
use Rattle.std.specs.Vec.{vec_capacity}

-- its files
abbrev pub seen : RowFiles → Files
seen s = record {
  nodes = s.nodes.map;
  next_node = s.nodes.next;
  pipes = s.pipes.map;
  descriptions = s.descriptions.map;
  descriptors = s.descriptors.map;
  consoles = s.consoles.map;
}

-- its room: the numbers of descriptions and pipes are below 2 ^ 32
abbrev pub room_of : RowFiles → Room
room_of s = record {
  nodes = s.nodes.spare;
  opens = min (min s.descriptions.spare s.descriptors.spare) (2 ^ 32 - count s.descriptions.map);
  pipes = min s.pipes.spare (2 ^ 32 - count s.pipes.map);
  shares = s.descriptors.spare;
}

-- up to which end a target can be written: the spare buffer takes the place of its own
abbrev pub can_write_of : RowFiles → Target → ℕ → Type 0
can_write_of s target end = end ≤ vec_capacity s.spare
