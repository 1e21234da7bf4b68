use Rattle.pair_offers.proofs.Ended.{next-number}
use Rattle.pair_offers.proofs.standing.some_worker_offers.Goals as goal
use Rattle.run_model.specs.declared.actors.Actor.TheVariants.{Worker}
use Rattle.std.proofs.Common.{arith, sym, ◌∙◌}
use Rattle.std.specs.Prelude.{◌<◌}

pub loop-worker-preserved : goal.loop-worker-preserved
loop-worker-preserved g c =
    let pair = g.A.Offers.pair c.args.state.now in
    let l : c.loop-worker.worker < pair.workers = omega (arith, c.workers-workers.ensures.value) in
    c.loop-worker.invariant ∙ next-number pair (λ n. Worker c.args.p n) c.loop-worker.worker pair.workers l (sym c.offers.ensures ∙ c.if-offers.false)
