use Rattle.std.proofs.Common.{◌≡◌, ◌++◌, drop}
use Rattle.std.specs.Vec.{vec_capacity}
use Rattle.vm_areas.specs.Ranges.{without}
use Rattle.vm_areas.proofs.ranges.split_into.Given as goal

abbrev pub invariant-loop-x : goal.invariant-loop-x
invariant-loop-x l = record {
  left : l.out.items ++ without l.r (drop l.x-index l.ranges) ≡ without l.r l.ranges;
  capacity : vec_capacity l.out ≡ vec_capacity l.fn.out;
}
