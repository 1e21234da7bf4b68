use Rattle.mcexec_run.proofs.Outcomes.{refused, with_job}
use Rattle.mcexec_run.proofs.Steps.{fails_on}
use Rattle.mcexec_run.proofs.walks.walk_job.Goals as goal
use Rattle.mcexec_run.specs.Chain.{gathered, prepared, with_frames}
use Rattle.mcexec_run.specs.Given.{gathered_given, prepared_given}
use Rattle.mcexec_run.specs.Outcome.{LeavesWalk, NoLine, ShowsWalk, text_at}
use Rattle.std.proofs.Common.{refl}

pub returns-in-Ok-clause-outcome : goal.returns-in-Ok-clause-outcome
returns-in-Ok-clause-outcome g c held told =
    with_job (gathered held c.args.job.now) with_frames c.in-Ok.p (LeavesWalk c.args.order) NoLine (ShowsWalk c.args.order (text_at c.args.form)) c.walk_into.result c.walk_into.new.journal (g.S.Sink.taken c.args.sink.now) (g.S.Sink.taken c.walk_into.new.sink) (c.in-Ok.ensures.value held told) c.walk_into.ensures.outcome

pub returns-in-Err-clause-outcome : goal.returns-in-Err-clause-outcome
returns-in-Err-clause-outcome g c held told =
    refused (prepared held c.args.job.now) (LeavesWalk c.args.order) NoLine (ShowsWalk c.args.order (text_at c.args.form)) c.in-Err.status c.args.journal.now (g.S.Sink.taken c.args.sink.now) (g.S.Sink.taken c.args.sink.now) c.in-Err.ensures.refusal
    (fails_on c.in-Err.status (gathered held c.args.job.now) with_frames (c.in-Err.ensures.value held told)) c.requires refl

pub returns-in-Ok-clause-given : goal.returns-in-Ok-clause-given
returns-in-Ok-clause-given g c =
    let w = c.in-Ok.ensures.given in
    (w.0, with_job (gathered_given w.0) with_frames c.in-Ok.p (LeavesWalk c.args.order) NoLine (ShowsWalk c.args.order (text_at c.args.form)) c.walk_into.result c.walk_into.new.journal (g.S.Sink.taken c.args.sink.now) (g.S.Sink.taken c.walk_into.new.sink) w.1 c.walk_into.ensures.outcome)

pub returns-in-Err-clause-given : goal.returns-in-Err-clause-given
returns-in-Err-clause-given g c =
    let w = c.in-Err.ensures.given in (
      w.0,
      refused (prepared_given w.0) (LeavesWalk c.args.order) NoLine (ShowsWalk c.args.order (text_at c.args.form)) c.in-Err.status c.args.journal.now (g.S.Sink.taken c.args.sink.now) (g.S.Sink.taken c.args.sink.now) c.in-Err.ensures.refusal
          (fails_on c.in-Err.status (gathered_given w.0) with_frames w.1) c.requires refl,
    )
