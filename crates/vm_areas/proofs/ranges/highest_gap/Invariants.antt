use Rattle.std.proofs.Common.{◌≤◌, length}
use Rattle.vm_areas.proofs.HighGaps.{IsSearched}
use Rattle.vm_areas.proofs.ranges.highest_gap.Given as goal

abbrev pub invariant-loop-left : goal.invariant-loop-left
invariant-loop-left l = record {
  within : l.left ≤ length l.ranges;
  high : l.high ≤ 0x3f00000;
  searched : IsSearched l.ranges l.pages l.left l.high;
}

abbrev pub decreases-loop-left : goal.decreases-loop-left
decreases-loop-left l = l.left
