use Rattle.ihk_parts.proofs.Passed.{goes_none, goes_same}
use Rattle.ihk_parts.proofs.Places.{behind-kernel, behind-linux, behind-script}
use Rattle.ihk_parts.proofs.behind.pass_behind.Goals as goal
use Rattle.ihk_parts.specs.Passing.{on_from, workers_from}
use Rattle.run_model.specs.Walks.{actors, all_workers, behind}
use Rattle.run_model.specs.declared.actors.Actor.{Actor}
use Rattle.run_model.specs.declared.actors.Actor.TheVariants.{Linux, Worker}
use Rattle.std.proofs.Common.{ap, map, ◌∙◌, ◌∷◌}

pub returns-in-Kernel-clause-goes : goal.returns-in-Kernel-clause-goes
returns-in-Kernel-clause-goes g c =
    let pair = g.P.Offers.pair c.args.machine.now in
    goes_same pair (behind c.args.last (actors pair)) (on_from pair (Linux c.in-Kernel.pid ∷ map (λ w. Worker c.in-Kernel.pid w) (all_workers pair)) c.in-Kernel.pid) c.args.skip.now c.pass_from_linux.result c.pass_from_linux.new.skip
    (ap (λ (a : Actor). behind a (actors pair)) c.in-Kernel.is ∙ behind-kernel pair c.in-Kernel.pid) c.pass_from_linux.ensures

pub returns-in-Linux-clause-goes : goal.returns-in-Linux-clause-goes
returns-in-Linux-clause-goes g c =
    let pair = g.P.Offers.pair c.args.machine.now in
    goes_same pair (behind c.args.last (actors pair)) (on_from pair (workers_from pair c.in-Linux.pid 0) c.in-Linux.pid) c.args.skip.now c.pass_from_worker.result c.pass_from_worker.new.skip
    (ap (λ (a : Actor). behind a (actors pair)) c.in-Linux.is ∙ behind-linux pair c.in-Linux.pid) c.pass_from_worker.ensures

pub returns-in-Script-clause-goes : goal.returns-in-Script-clause-goes
returns-in-Script-clause-goes g c =
    let pair = g.P.Offers.pair c.args.machine.now in
    goes_none pair (behind c.args.last (actors pair)) c.args.skip.now (ap (λ (a : Actor). behind a (actors pair)) c.in-Script.is ∙ behind-script pair)
