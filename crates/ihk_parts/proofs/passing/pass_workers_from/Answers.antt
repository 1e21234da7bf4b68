use Rattle.ihk_parts.proofs.Passed.{leads_first, leads_found, leads_on, leads_to_end}
use Rattle.ihk_parts.proofs.passing.pass_workers_from.Goals as goal
use Rattle.ihk_parts.specs.Passing.{workers_from}
use Rattle.run_model.specs.declared.actors.Actor.TheVariants.{Worker}
use Rattle.std.proofs.Common.{arith, ◌<◌, ◌≤◌}

pub loop-worker-init : goal.loop-worker-init
loop-worker-init g c = let pair = g.P.Offers.pair c.args.machine.now in leads_first pair (workers_from pair c.args.pid c.args.first) c.args.skip.now

pub loop-worker-preserved : goal.loop-worker-preserved
loop-worker-preserved g c =
    let pair = g.P.Offers.pair c.args.machine.now in
    let h : c.loop-worker.worker < pair.workers = omega (arith, c.workers-workers.ensures.value) in
    leads_on pair (workers_from pair c.args.pid c.args.first) c.args.skip.now (λ n. Worker c.args.pid n) c.loop-worker.worker pair.workers c.loop-worker.skip c.pass_one.new.skip h c.loop-worker.invariant c.in_default.ensures

pub returns-in-Some : goal.returns-in-Some
returns-in-Some g c =
    let pair = g.P.Offers.pair c.args.machine.now in
    let h : c.loop-worker.worker < pair.workers = omega (arith, c.workers-workers.ensures.value) in
    leads_found pair (workers_from pair c.args.pid c.args.first) c.args.skip.now (λ n. Worker c.args.pid n) c.loop-worker.worker pair.workers c.loop-worker.skip c.in-Some.choice c.pass_one.new.skip c.pass_one.new.skip h c.loop-worker.invariant c.in-Some.ensures

pub returns : goal.returns
returns g c =
    let pair = g.P.Offers.pair c.args.machine.now in
    let h : pair.workers ≤ c.loop-worker.worker = omega (arith, c.workers-workers.ensures.value) in
    leads_to_end pair (workers_from pair c.args.pid c.args.first) c.args.skip.now (λ n. Worker c.args.pid n) c.loop-worker.worker pair.workers c.loop-worker.skip h c.loop-worker.invariant
