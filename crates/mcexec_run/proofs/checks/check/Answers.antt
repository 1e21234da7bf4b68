use Rattle.hybrid_model.specs.declared.events.Event.{Event}
use Rattle.mcexec_run.proofs.Outcomes.{completes_check}
use Rattle.mcexec_run.proofs.checks.check.Goals as goal
use Rattle.mcexec_run.specs.Chain.{prepared}
use Rattle.mcexec_run.specs.Given.{prepared_given}
use Rattle.mcexec_run.specs.Outcome.{CheckOutcome}
use Rattle.std.proofs.Common.{List, [], subst, sym}

pub returns-clause-outcome : goal.returns-clause-outcome
returns-clause-outcome g c held told =
    subst (λ (js : List Event). CheckOutcome (prepared held c.args.job.now) c.check_job-status.result js (g.S.Sink.taken c.args.sink.now) (g.S.Sink.taken c.check_job-status.new.sink)) (sym c.new.ensures) (c.check_job-status.ensures.outcome held told)

pub returns-clause-complete : goal.returns-clause-complete
returns-clause-complete g c held told =
    completes_check (prepared held c.args.job.now) c.check_job-status.result [] (g.S.Sink.taken c.args.sink.now) (g.S.Sink.taken c.check_job-status.new.sink) (c.check_job-status.ensures.outcome held told)

pub returns-clause-given : goal.returns-clause-given
returns-clause-given g c =
    let w = c.check_job-status.ensures.given in
    let new = g.S.Sink.taken c.check_job-status.new.sink in (
      w.0,
      (subst (λ (js : List Event). CheckOutcome (prepared_given w.0) c.check_job-status.result js (g.S.Sink.taken c.args.sink.now) new) (sym c.new.ensures) w.1, completes_check (prepared_given w.0) c.check_job-status.result [] (g.S.Sink.taken c.args.sink.now) new w.1),
    )
