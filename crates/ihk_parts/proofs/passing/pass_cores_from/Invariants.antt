use Rattle.std.proofs.Common.{◌-◌}
use Rattle.ihk_parts.proofs.Passed.{Leads, below}
use Rattle.ihk_parts.proofs.passing.pass_cores_from.Given as goal
use Rattle.ihk_parts.specs.Passing.{cores_from}
use Rattle.run_model.specs.declared.actors.Actor.TheVariants.{Core}

abbrev pub invariant-loop-core : goal.invariant-loop-core
invariant-loop-core g l =
    let pair = g.P.Offers.pair l.machine in Leads pair (cores_from pair l.first) l.fn.skip (below (λ n. Core n) l.core pair.cores) l.skip

abbrev pub decreases-loop-core : goal.decreases-loop-core
decreases-loop-core g l = l.cores - l.core
