use Rattle.ihk_parts.proofs.Passed.{goes_none, goes_same}
use Rattle.ihk_parts.proofs.Places.{behind-no_worker, behind-worker}
use Rattle.ihk_parts.proofs.behind.pass_behind_worker.Goals as goal
use Rattle.ihk_parts.specs.Passing.{on_from, workers_from}
use Rattle.run_model.specs.Walks.{actors, behind}
use Rattle.run_model.specs.declared.actors.Actor.TheVariants.{Worker}
use Rattle.std.proofs.Common.{arith, ◌+◌, ◌<◌, ◌≤◌}

pub returns-then-worker-workers : goal.returns-then-worker-workers
returns-then-worker-workers g c =
    let pair = g.P.Offers.pair c.args.machine.now in
    let h : c.args.worker < pair.workers = omega (arith, c.workers.ensures.value, c.if-worker-workers.true) in
    goes_same pair (behind (Worker c.args.pid c.args.worker) (actors pair)) (on_from pair (workers_from pair c.args.pid (c.args.worker + 1)) c.args.pid) c.args.skip.now c.pass_from_worker.result c.pass_from_worker.new.skip
    (behind-worker pair c.args.pid c.args.worker h) c.pass_from_worker.ensures

pub returns-else-worker-workers : goal.returns-else-worker-workers
returns-else-worker-workers g c =
    let pair = g.P.Offers.pair c.args.machine.now in
    let h : pair.workers ≤ c.args.worker = omega (arith, c.workers.ensures.value, c.if-worker-workers.false) in
    goes_none pair (behind (Worker c.args.pid c.args.worker) (actors pair)) c.args.skip.now (behind-no_worker pair c.args.pid c.args.worker h)
