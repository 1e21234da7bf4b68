use Rattle.mcexec_run.proofs.Grown.{grown_ready}
use Rattle.mcexec_run.proofs.walks.grow_into.Goals as goal
use Rattle.mcexec_run.specs.Chain.{with_frames}
use Rattle.mcexec_run.specs.Growing.{grow_text}
use Rattle.mcexec_run.specs.Outcome.{WalkOutcome}
use Rattle.std.proofs.Common.{ap, subst, ◌∙◌}

pub returns-in-Ok-clause-outcome : goal.returns-in-Ok-clause-outcome
returns-in-Ok-clause-outcome g c =
    subst (λ ready. WalkOutcome ready c.args.order (grow_text c.args.n) c.walk_into.result c.walk_into.new.journal (g.S.Sink.taken c.args.sink.now) (g.S.Sink.taken c.walk_into.new.sink))
    (ap with_frames c.in-Ok.ensures.value ∙ grown_ready c.args.n) c.walk_into.ensures.outcome
