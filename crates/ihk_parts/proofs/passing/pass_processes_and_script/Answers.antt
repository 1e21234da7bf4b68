use Rattle.ihk_parts.proofs.Passed.{goes_first, goes_on, processes_actors}
use Rattle.ihk_parts.proofs.passing.pass_processes_and_script.Goals as goal
use Rattle.run_model.specs.declared.actors.Actor.TheVariants.{Script}
use Rattle.std.proofs.Common.{[], ◌∷◌}

pub returns-in-Some : goal.returns-in-Some
returns-in-Some g c =
    let pair = g.P.Offers.pair c.args.machine.now in
    goes_first pair (processes_actors pair c.args.pids.now) (Script ∷ []) c.args.skip.now c.in-Some.choice c.pass_processes.new.skip c.pass_processes.new.skip c.in-Some.ensures

pub returns : goal.returns
returns g c =
    let pair = g.P.Offers.pair c.args.machine.now in
    goes_on pair (processes_actors pair c.args.pids.now) (Script ∷ []) c.args.skip.now c.pass_processes.new.skip c.pass_script.result c.pass_script.new.skip c.in_default.ensures c.pass_script.ensures
