use Rattle.job_model.specs.Images.{IsSegment}
use Rattle.kernel_model.specs.Layout.{needed_frames}
use Rattle.mck_report.proofs.Frames.{pages_of_segments}
use Rattle.mck_report.proofs.check_text.needed_frames.Given as goal
use Rattle.std.proofs.Common.{All, length, ◌*◌, ◌+◌, ◌^◌, ◌≡◌, ◌≤◌}

abbrev pub invariant-loop-segment : goal.invariant-loop-segment
invariant-loop-segment l = record {
  value : l.needed + pages_of_segments l.rest ≡ needed_frames l.image;
  bound : l.needed + 2 ^ 26 * length l.rest ≤ 17 + 2 ^ 26 * 64;
  kept : All IsSegment l.rest;
}

abbrev pub decreases-loop-segment : goal.decreases-loop-segment
decreases-loop-segment l = length l.rest
