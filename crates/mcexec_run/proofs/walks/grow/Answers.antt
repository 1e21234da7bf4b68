use Rattle.mcexec_run.proofs.Outcomes.{completes}
use Rattle.mcexec_run.proofs.walks.grow.Goals as goal
use Rattle.mcexec_run.specs.Growing.{grow_text, grown}
use Rattle.std.proofs.Common.{Ok}

pub returns-clause-complete : goal.returns-clause-complete
returns-clause-complete g c =
    completes (Ok (grown c.args.n)) c.args.order (grow_text c.args.n) c.grow_into-status.result c.grow_into-status.new.journal (g.S.Sink.taken c.args.sink.now) (g.S.Sink.taken c.grow_into-status.new.sink) c.grow_into-status.ensures.outcome
