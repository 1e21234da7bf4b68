use Rattle.std.proofs.Common.{◌≡◌, ◌++◌, length, map, flat_map}
use Rattle.run_model.specs.Texts.{text_of}
use Rattle.run_summary.specs.Summaries.{path_parts}
use Rattle.mck_report.proofs.report_text.add_paths.Given as goal

abbrev pub invariant-loop-row : goal.invariant-loop-row
invariant-loop-row l = l.text ++ text_of (flat_map path_parts l.rest) ≡ l.fn.text ++ text_of (flat_map path_parts l.rows)

abbrev pub decreases-loop-row : goal.decreases-loop-row
decreases-loop-row l = length l.rest
