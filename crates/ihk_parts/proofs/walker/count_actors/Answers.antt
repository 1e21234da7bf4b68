use Rattle.ihk_parts.proofs.Passed.{length-actors}
use Rattle.ihk_parts.proofs.walker.count_actors.Goals as goal
use Rattle.std.proofs.Common.{length, sym}

pub returns : goal.returns
returns g c =
    let n = length c.processes.result.now in
    let whole = length-actors (g.P.Offers.pair c.args.machine.now) c.processes.result.now c.processes.ensures.value in
    rw (c.cores.ensures.value, c.workers.ensures.value) (sym whole)
