use Rattle.std.proofs.Common.{◌≡◌, ◌++◌, length, map, flat_map}
use Rattle.run_model.specs.Texts.{text_of}
use Rattle.run_summary.specs.Summaries.{output_parts}
use Rattle.mck_report.proofs.report_text.add_outputs.Given as goal

abbrev pub invariant-loop-output : goal.invariant-loop-output
invariant-loop-output l = l.text ++ text_of (flat_map output_parts l.rest) ≡ l.fn.text ++ text_of (flat_map output_parts l.outputs)

abbrev pub decreases-loop-output : goal.decreases-loop-output
decreases-loop-output l = length l.rest
