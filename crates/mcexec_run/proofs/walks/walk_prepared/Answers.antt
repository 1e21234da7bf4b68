use Rattle.mcexec_run.proofs.Outcomes.{completes}
use Rattle.mcexec_run.proofs.walks.walk_prepared.Goals as goal
use Rattle.mcexec_run.specs.Chain.{with_frames}
use Rattle.mcexec_run.specs.Outcome.{text_at}

pub returns-clause-complete : goal.returns-clause-complete
returns-clause-complete g c =
    completes (with_frames c.args.p.now) c.args.order (text_at c.args.form) c.walk_into-status.result c.walk_into-status.new.journal (g.S.Sink.taken c.args.sink.now) (g.S.Sink.taken c.walk_into-status.new.sink) c.walk_into-status.ensures.outcome
