use Rattle.ihk_parts.proofs.Passed.{goes_first, goes_on}
use Rattle.ihk_parts.proofs.passing.pass_behind_cores.Goals as goal
use Rattle.mck_word.specs.Maps.{keys}
use Rattle.run_model.specs.Walks.{actors_of_process}
use Rattle.run_model.specs.declared.actors.Actor.TheVariants.{Script}
use Rattle.std.proofs.Common.{flat_map, [], ◌∷◌}

pub returns-in-Some-clause-goes : goal.returns-in-Some-clause-goes
returns-in-Some-clause-goes g c =
    let pair = g.P.Offers.pair c.args.machine.now in
    goes_first pair (flat_map (actors_of_process pair) (keys pair.node.processes)) (Script ∷ []) c.args.skip.now c.in-Some.choice c.pass_all_processes.new.skip c.pass_all_processes.new.skip c.in-Some.ensures.goes

pub returns-clause-goes : goal.returns-clause-goes
returns-clause-goes g c =
    let pair = g.P.Offers.pair c.args.machine.now in
    goes_on pair (flat_map (actors_of_process pair) (keys pair.node.processes)) (Script ∷ []) c.args.skip.now c.pass_all_processes.new.skip c.pass_script.result c.pass_script.new.skip c.in_default.ensures.goes c.pass_script.ensures
