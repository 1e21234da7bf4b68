use Rattle.ihk_parts.proofs.Passed.{goes_first, goes_on}
use Rattle.ihk_parts.proofs.passing.pass_from_core.Goals as goal
use Rattle.ihk_parts.specs.Passing.{cores_from, processes_and_script}
use Rattle.mck_word.specs.Maps.{keys}

pub returns-in-Some-clause-goes : goal.returns-in-Some-clause-goes
returns-in-Some-clause-goes g c =
    let pair = g.P.Offers.pair c.args.machine.now in
    goes_first pair (cores_from pair c.args.first) (processes_and_script pair (keys pair.node.processes)) c.args.skip.now c.in-Some.choice c.pass_cores_from.new.skip c.pass_cores_from.new.skip c.in-Some.ensures

pub returns-clause-goes : goal.returns-clause-goes
returns-clause-goes g c =
    let pair = g.P.Offers.pair c.args.machine.now in
    goes_on pair (cores_from pair c.args.first) (processes_and_script pair (keys pair.node.processes)) c.args.skip.now c.pass_cores_from.new.skip c.pass_behind_cores.result c.pass_behind_cores.new.skip c.in_default.ensures c.pass_behind_cores.ensures.goes
