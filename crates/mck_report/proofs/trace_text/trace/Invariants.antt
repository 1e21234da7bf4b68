use Rattle.std.proofs.Common.{◌≡◌, ◌++◌, length}
use Rattle.run_model.specs.Texts.{text_of}
use Rattle.run_model.specs.Traces.{trace, event_lines}
use Rattle.mck_report.proofs.trace_text.trace.Given as goal

abbrev pub invariant-loop-event : goal.invariant-loop-event
invariant-loop-event l = l.text ++ text_of (event_lines l.rest) ≡ trace l.journal

abbrev pub decreases-loop-event : goal.decreases-loop-event
decreases-loop-event l = length l.rest
