use Rattle.std.specs.Prelude.{take, ◌≡◌}
use Rattle.std.specs.Vec.{vec_capacity}
use Rattle.vm_areas.proofs.copies.push_all.Given as goal

abbrev pub invariant-loop-r : goal.invariant-loop-r
invariant-loop-r l = record {
  items : l.out.items ≡ take l.r-index l.ranges;
  capacity : vec_capacity l.out ≡ vec_capacity l.fn.out;
}
