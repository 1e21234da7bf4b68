use Rattle.std.proofs.Common.{◌≡◌, ◌++◌, length, map, flat_map}
use Rattle.run_model.specs.Texts.{text_of}
use Rattle.run_summary.specs.Summaries.{unsent_part}
use Rattle.mck_report.proofs.report_text.add_unsent.Given as goal

abbrev pub invariant-loop-line : goal.invariant-loop-line
invariant-loop-line l = l.text ++ text_of (map unsent_part l.rest) ≡ l.fn.text ++ text_of (map unsent_part l.lines)

abbrev pub decreases-loop-line : goal.decreases-loop-line
decreases-loop-line l = length l.rest
