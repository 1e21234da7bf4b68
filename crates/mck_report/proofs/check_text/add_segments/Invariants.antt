use Rattle.std.proofs.Common.{◌≡◌, ◌++◌, length, map}
use Rattle.run_model.specs.Texts.{text_of}
use Rattle.mck_report.specs.Checks.{segment_line}
use Rattle.mck_report.proofs.check_text.add_segments.Given as goal

abbrev pub invariant-loop-segment : goal.invariant-loop-segment
invariant-loop-segment l = l.text ++ text_of (map segment_line l.rest) ≡ l.fn.text ++ text_of (map segment_line l.segments)

abbrev pub decreases-loop-segment : goal.decreases-loop-segment
decreases-loop-segment l = length l.rest
