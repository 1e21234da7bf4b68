use Rattle.mck_report.specs.Reading.{IsEntry}
use Rattle.mck_report.proofs.reading.read_events.Given as goal
use Rattle.run_model.specs.Texts.{text_of}
use Rattle.run_model.specs.Traces.{event_lines}
use Rattle.std.proofs.Common.{length, ◌+◌, ◌++◌, ◌<◌, ◌^◌, ◌≡◌}
use Rattle.std.specs.List.{AllByRecursion}

abbrev pub invariant-loop-rest : goal.invariant-loop-rest
invariant-loop-rest l = record {
  spelled : l.bytes ≡ text_of (event_lines l.journal) ++ l.rest;
  entries : AllByRecursion (IsEntry l.version) l.journal;
  number : l.line ≡ length l.journal + 2;
  room : l.line + length l.rest < 2 ^ 64;
}

abbrev pub decreases-loop-rest : goal.decreases-loop-rest
decreases-loop-rest l = length l.rest
