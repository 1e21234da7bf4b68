use Rattle.std.proofs.Common.{◌-◌}
use Rattle.ihk_parts.proofs.Passed.{Leads, below}
use Rattle.ihk_parts.proofs.passing.pass_workers_from.Given as goal
use Rattle.ihk_parts.specs.Passing.{workers_from}
use Rattle.run_model.specs.declared.actors.Actor.TheVariants.{Worker}

abbrev pub invariant-loop-worker : goal.invariant-loop-worker
invariant-loop-worker g l =
    let pair = g.P.Offers.pair l.machine in Leads pair (workers_from pair l.pid l.first) l.fn.skip (below (λ n. Worker l.pid n) l.worker pair.workers) l.skip

abbrev pub decreases-loop-worker : goal.decreases-loop-worker
decreases-loop-worker g l = l.workers - l.worker
