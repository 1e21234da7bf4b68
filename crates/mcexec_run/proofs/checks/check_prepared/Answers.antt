use Rattle.hybrid_model.specs.declared.events.Event.{Event}
use Rattle.mcexec_run.proofs.Outcomes.{completes_check}
use Rattle.mcexec_run.proofs.checks.check_prepared.Goals as goal
use Rattle.mcexec_run.specs.Chain.{with_frames}
use Rattle.mcexec_run.specs.Outcome.{CheckOutcome}
use Rattle.std.proofs.Common.{List, [], subst, sym}

pub returns-clause-outcome : goal.returns-clause-outcome
returns-clause-outcome g c =
    subst (λ (js : List Event). CheckOutcome (with_frames c.args.p.now) c.check_into-status.result js (g.S.Sink.taken c.args.sink.now) (g.S.Sink.taken c.check_into-status.new.sink)) (sym c.new.ensures) c.check_into-status.ensures.outcome

pub returns-clause-complete : goal.returns-clause-complete
returns-clause-complete g c = completes_check (with_frames c.args.p.now) c.check_into-status.result [] (g.S.Sink.taken c.args.sink.now) (g.S.Sink.taken c.check_into-status.new.sink) c.check_into-status.ensures.outcome
