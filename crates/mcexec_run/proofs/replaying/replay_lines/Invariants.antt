use Rattle.hybrid_model.specs.Journals.{may_all, state}
use Rattle.mcexec_run.proofs.replaying.replay_lines.Given as goal
use Rattle.mck_report.specs.Reading.{IsEntry}
use Rattle.run_model.specs.Texts.{text_of}
use Rattle.run_model.specs.Traces.{event_lines}
use Rattle.std.proofs.Common.{length, true, ◌+◌, ◌++◌, ◌<◌, ◌^◌, ◌≡◌}
use Rattle.std.specs.List.{AllByRecursion}

abbrev pub invariant-lines : goal.invariant-lines
invariant-lines g l = record {
  text : l.bytes ≡ text_of (event_lines l.journal) ++ l.rest;
  entries : AllByRecursion (IsEntry l.version) l.journal;
  number : l.line ≡ length l.journal + 2;
  room : l.line + length l.rest < 2 ^ 64;
  legal : may_all (g.M.Offers.pair l.fn.machine) l.journal ≡ true;
  state : g.M.Offers.pair l.machine ≡ state (g.M.Offers.pair l.fn.machine) l.journal;
}

abbrev pub decreases-lines : goal.decreases-lines
decreases-lines g l = length l.rest
