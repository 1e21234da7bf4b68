use Rattle.mcexec_run.proofs.Outcomes.{completes}
use Rattle.mcexec_run.proofs.walks.walk.Goals as goal
use Rattle.mcexec_run.specs.Chain.{prepared}
use Rattle.mcexec_run.specs.Given.{prepared_given}
use Rattle.mcexec_run.specs.Outcome.{text_at}

pub returns-clause-complete : goal.returns-clause-complete
returns-clause-complete g c held told =
    completes (prepared held c.args.job.now) c.args.order (text_at c.args.form) c.walk_job-status.result c.walk_job-status.new.journal (g.S.Sink.taken c.args.sink.now) (g.S.Sink.taken c.walk_job-status.new.sink) (c.walk_job-status.ensures.outcome held told)

pub returns-clause-given : goal.returns-clause-given
returns-clause-given g c =
    let w = c.walk_job-status.ensures.given in
    (w.0, (w.1, completes (prepared_given w.0) c.args.order (text_at c.args.form) c.walk_job-status.result c.walk_job-status.new.journal (g.S.Sink.taken c.args.sink.now) (g.S.Sink.taken c.walk_job-status.new.sink) w.1))
