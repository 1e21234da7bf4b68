use Rattle.lwk_boot.specs.Order.{left, one_each}
use Rattle.lwk_boot.specs.Rooms.{LieBelow, RiseTo}
use Rattle.std.specs.Prelude.{◌≡◌, ◌≤◌}
use Rattle.lwk_boot.proofs.room.guest_ranges.Given as goal

-- the segments from the page on are left
abbrev pub invariant-loop-k : goal.invariant-loop-k
invariant-loop-k l = record {
  same : l.segments ≡ l.image.segments;
  low : l.from ≤ 0x3000000;
  rise : RiseTo 0 l.ranges.items l.from;
  lie : LieBelow l.image.segments l.from l.ranges.items;
}

abbrev pub decreases-loop-k : goal.decreases-loop-k
decreases-loop-k l = left one_each l.from l.image.segments
