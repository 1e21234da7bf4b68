use Rattle.ihk_parts.proofs.Passed.{goes_none, goes_same}
use Rattle.ihk_parts.proofs.Places.{behind-core, behind-no_core}
use Rattle.ihk_parts.proofs.behind.pass_behind_core.Goals as goal
use Rattle.ihk_parts.specs.Passing.{cores_from, processes_and_script}
use Rattle.mck_word.specs.Maps.{keys}
use Rattle.run_model.specs.Walks.{actors, behind}
use Rattle.run_model.specs.declared.actors.Actor.TheVariants.{Core}
use Rattle.std.proofs.Common.{arith, ◌+◌, ◌++◌, ◌<◌, ◌≤◌}

pub returns-then-core-cores-clause-goes : goal.returns-then-core-cores-clause-goes
returns-then-core-cores-clause-goes g c =
    let pair = g.P.Offers.pair c.args.machine.now in
    let h : c.args.core < pair.cores = omega (arith, c.cores.ensures.value, c.if-core-cores.true) in
    goes_same pair (behind (Core c.args.core) (actors pair)) (cores_from pair (c.args.core + 1) ++ processes_and_script pair (keys pair.node.processes)) c.args.skip.now c.pass_from_core.result c.pass_from_core.new.skip
    (behind-core pair c.args.core h) c.pass_from_core.ensures.goes

pub returns-else-core-cores-clause-goes : goal.returns-else-core-cores-clause-goes
returns-else-core-cores-clause-goes g c =
    let pair = g.P.Offers.pair c.args.machine.now in
    let h : pair.cores ≤ c.args.core = omega (arith, c.cores.ensures.value, c.if-core-cores.false) in
    goes_none pair (behind (Core c.args.core) (actors pair)) c.args.skip.now (behind-no_core pair c.args.core h)
