use Rattle.std.proofs.Common.{◌≡◌, ◌++◌, length, map, flat_map}
use Rattle.run_model.specs.Texts.{text_of}
use Rattle.run_summary.specs.Summaries.{end_line}
use Rattle.mck_report.proofs.report_text.add_processes.Given as goal

abbrev pub invariant-loop-process : goal.invariant-loop-process
invariant-loop-process l = l.text ++ text_of (map end_line l.rest) ≡ l.fn.text ++ text_of (map end_line l.processes)

abbrev pub decreases-loop-process : goal.decreases-loop-process
decreases-loop-process l = length l.rest
