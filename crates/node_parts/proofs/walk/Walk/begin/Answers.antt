use Rattle.node_parts.proofs.OnCourse.{begins}
use Rattle.node_parts.proofs.walk.Walk.begin.Goals as goal
use Rattle.std.proofs.Common.{ap}

pub invariant_of-result : goal.invariant_of-result
invariant_of-result g c =
    begins (g.M.Offers.pair c.of-began.result.value) (g.M.Offers.pair c.args.machine) c.args.order c.new.result
    c.new-2.result (ap g.M.Offers.pair c.of-began.ensures) c.new.ensures c.new-2.ensures c.requires
