use Rattle.mck_word.specs.declared.PageRange.{PageRange}
use Rattle.std.proofs.Common.{◌≡◌, ◌+◌, ◌≤◌, ◌++◌, Bool, List, cond, drop, false, length, true}
use Rattle.std.specs.Vec.{vec_capacity}
use Rattle.vm_areas.specs.Ranges.{with_range}
use Rattle.vm_areas.proofs.ranges.cover_into.Given as goal

-- what the ranges that are left become
abbrev pub rest_of : Bool → PageRange → List PageRange → List PageRange
rest_of true r xs = xs
rest_of false r xs = with_range r xs

abbrev pub invariant-loop-x : goal.invariant-loop-x
invariant-loop-x l = record {
  left : l.out.items ++ rest_of l.placed l.joined (drop l.x-index l.ranges) ≡ with_range l.fn.r l.ranges;
  few : length l.out.items ≤ l.x-index + cond l.placed 1 0;
  capacity : vec_capacity l.out ≡ vec_capacity l.fn.out;
}
