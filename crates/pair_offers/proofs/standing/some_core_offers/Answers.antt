use Rattle.pair_offers.proofs.Ended.{next-number}
use Rattle.pair_offers.proofs.standing.some_core_offers.Goals as goal
use Rattle.run_model.specs.declared.actors.Actor.TheVariants.{Core}
use Rattle.std.proofs.Common.{arith, sym, ◌∙◌}
use Rattle.std.specs.Prelude.{◌<◌}

pub loop-core-preserved : goal.loop-core-preserved
loop-core-preserved g c =
    let pair = g.A.Offers.pair c.args.state.now in
    let l : c.loop-core.core < pair.cores = omega (arith, c.cores-cores.ensures.value) in
    c.loop-core.invariant ∙ next-number pair (λ n. Core n) c.loop-core.core pair.cores l (sym c.offers.ensures ∙ c.if-offers.false)
