use Rattle.mcexec_run.proofs.Outcomes.{with_job}
use Rattle.mcexec_run.proofs.RunOutcomes.{completes_run, refused_run}
use Rattle.mcexec_run.proofs.Steps.{fails_on}
use Rattle.mcexec_run.proofs.runs.run.Goals as goal
use Rattle.mcexec_run.specs.Chain.{gathered, prepared, with_frames}
use Rattle.mcexec_run.specs.Given.{gathered_given, prepared_given}
use Rattle.mcexec_run.specs.Outcome.{NoLine, text_at}
use Rattle.mcexec_run.specs.Running.{LeavesRun, ShowsRun}

pub returns-in-Ok-clause-outcome : goal.returns-in-Ok-clause-outcome
returns-in-Ok-clause-outcome g c held told =
    with_job (gathered held c.args.job.now) with_frames c.in-Ok.p LeavesRun NoLine (ShowsRun (text_at c.args.form)) c.run_prepared.result.status c.run_prepared.result.journal (g.S.Sink.taken c.args.sink.now) (g.S.Sink.taken c.run_prepared.new.sink)
    (c.in-Ok.ensures.value held told) c.run_prepared.ensures.outcome

pub returns-in-Ok-clause-complete : goal.returns-in-Ok-clause-complete
returns-in-Ok-clause-complete g c held told =
    completes_run (prepared held c.args.job.now) (text_at c.args.form) c.run_prepared.result.status c.run_prepared.result.journal (g.S.Sink.taken c.args.sink.now) (g.S.Sink.taken c.run_prepared.new.sink) (returns-in-Ok-clause-outcome g c held told)

pub returns-in-Ok-clause-given : goal.returns-in-Ok-clause-given
returns-in-Ok-clause-given g c =
    let w = c.in-Ok.ensures.given in
    let new = g.S.Sink.taken c.run_prepared.new.sink in
    let ran =
    with_job (gathered_given w.0) with_frames c.in-Ok.p LeavesRun NoLine (ShowsRun (text_at c.args.form)) c.run_prepared.result.status c.run_prepared.result.journal (g.S.Sink.taken c.args.sink.now) new w.1 c.run_prepared.ensures.outcome in
    (w.0, (ran, completes_run (prepared_given w.0) (text_at c.args.form) c.run_prepared.result.status c.run_prepared.result.journal (g.S.Sink.taken c.args.sink.now) new ran))

pub returns-in-Err-clause-outcome : goal.returns-in-Err-clause-outcome
returns-in-Err-clause-outcome g c held told =
    refused_run (prepared held c.args.job.now) (text_at c.args.form) c.in-Err.status c.nothing_kept.result.status c.nothing_kept.result.journal (g.S.Sink.taken c.args.sink.now) c.in-Err.ensures.refusal
    (fails_on c.in-Err.status (gathered held c.args.job.now) with_frames (c.in-Err.ensures.value held told)) c.nothing_kept.ensures.status c.nothing_kept.ensures.journal

pub returns-in-Err-clause-complete : goal.returns-in-Err-clause-complete
returns-in-Err-clause-complete g c held told =
    completes_run (prepared held c.args.job.now) (text_at c.args.form) c.nothing_kept.result.status c.nothing_kept.result.journal (g.S.Sink.taken c.args.sink.now) (g.S.Sink.taken c.args.sink.now) (returns-in-Err-clause-outcome g c held told)

pub returns-in-Err-clause-given : goal.returns-in-Err-clause-given
returns-in-Err-clause-given g c =
    let w = c.in-Err.ensures.given in
    let ran =
    refused_run (prepared_given w.0) (text_at c.args.form) c.in-Err.status c.nothing_kept.result.status c.nothing_kept.result.journal (g.S.Sink.taken c.args.sink.now) c.in-Err.ensures.refusal (fails_on c.in-Err.status (gathered_given w.0) with_frames w.1)
    c.nothing_kept.ensures.status c.nothing_kept.ensures.journal in
    (w.0, (ran, completes_run (prepared_given w.0) (text_at c.args.form) c.nothing_kept.result.status c.nothing_kept.result.journal (g.S.Sink.taken c.args.sink.now) (g.S.Sink.taken c.args.sink.now) ran))
