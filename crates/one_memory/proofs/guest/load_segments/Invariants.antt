use Rattle.job_model.specs.Images.{IsSegment}
use Rattle.kernel_model.specs.Layout.{add_segment}
use Rattle.std.proofs.Common.{All, fold, length, ◌≡◌}
use Rattle.one_memory.proofs.guest.load_segments.Given as goal

-- the segments that are left
abbrev pub invariant-loop-s : goal.invariant-loop-s
invariant-loop-s l = record {
  left : fold add_segment l.memory.map l.rest ≡ fold add_segment l.fn.memory.map l.segments;
  kept : All IsSegment l.rest;
}

abbrev pub decreases-loop-s : goal.decreases-loop-s
decreases-loop-s l = length l.rest
