use Rattle.mcexec_run.proofs.Outcomes.{refused, with_job}
use Rattle.mcexec_run.proofs.Steps.{fails_on}
use Rattle.mcexec_run.proofs.checks.check_job.Goals as goal
use Rattle.mcexec_run.specs.Chain.{gathered, prepared, with_frames}
use Rattle.mcexec_run.specs.Given.{gathered_given, prepared_given}
use Rattle.mcexec_run.specs.Outcome.{NoLine, ShowsCheck}
use Rattle.std.proofs.Common.{[], ◌≡◌, refl}

pub returns-in-Ok-clause-outcome : goal.returns-in-Ok-clause-outcome
returns-in-Ok-clause-outcome g c held told =
    with_job (gathered held c.args.job.now) with_frames c.in-Ok.p (λ _ left. left ≡ []) NoLine ShowsCheck c.check_into.result [] (g.S.Sink.taken c.args.sink.now) (g.S.Sink.taken c.check_into.new.sink) (c.in-Ok.ensures.value held told) c.check_into.ensures.outcome

pub returns-in-Err-clause-outcome : goal.returns-in-Err-clause-outcome
returns-in-Err-clause-outcome g c held told =
    refused (prepared held c.args.job.now) (λ _ left. left ≡ []) NoLine ShowsCheck c.in-Err.status [] (g.S.Sink.taken c.args.sink.now) (g.S.Sink.taken c.args.sink.now) c.in-Err.ensures.refusal
    (fails_on c.in-Err.status (gathered held c.args.job.now) with_frames (c.in-Err.ensures.value held told)) refl refl

pub returns-in-Ok-clause-given : goal.returns-in-Ok-clause-given
returns-in-Ok-clause-given g c =
    let w = c.in-Ok.ensures.given in
    (w.0, with_job (gathered_given w.0) with_frames c.in-Ok.p (λ _ left. left ≡ []) NoLine ShowsCheck c.check_into.result [] (g.S.Sink.taken c.args.sink.now) (g.S.Sink.taken c.check_into.new.sink) w.1 c.check_into.ensures.outcome)

pub returns-in-Err-clause-given : goal.returns-in-Err-clause-given
returns-in-Err-clause-given g c =
    let w = c.in-Err.ensures.given in (
      w.0,
      refused (prepared_given w.0) (λ _ left. left ≡ []) NoLine ShowsCheck c.in-Err.status [] (g.S.Sink.taken c.args.sink.now) (g.S.Sink.taken c.args.sink.now) c.in-Err.ensures.refusal (fails_on c.in-Err.status (gathered_given w.0) with_frames w.1) refl refl,
    )
