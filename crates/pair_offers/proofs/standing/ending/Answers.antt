use Rattle.hybrid_model.specs.Journals.{ending_of_run}
use Rattle.hybrid_model.specs.declared.events.Ending.TheVariants.{Unfinished}
use Rattle.pair_offers.proofs.Ended.{over-where-none, stands}
use Rattle.pair_offers.proofs.standing.ending.Goals as goal
use Rattle.std.proofs.Common.{ap, arith, sym, ◌∙◌}
use Rattle.std.specs.Prelude.{cond, ◌≤◌}

pub returns-then-some_actor_offers-clause-value : goal.returns-then-some_actor_offers-clause-value
returns-then-some_actor_offers-clause-value g c =
    let pair = g.A.Offers.pair c.args.state.now in
    let some_core : 1 ≤ pair.cores = omega (arith, c.cores-cores.ensures.value, c.cores-cores.ensures.some) in
    sym (stands pair some_core ∙ ap (λ b. cond b Unfinished (ending_of_run pair)) (sym c.some_actor_offers.ensures ∙ c.if-some_actor_offers.true))

pub returns-then-some_actor_offers-clause-over : goal.returns-then-some_actor_offers-clause-over
returns-then-some_actor_offers-clause-over g c =
    let pair = g.A.Offers.pair c.args.state.now in
    let some_core : 1 ≤ pair.cores = omega (arith, c.cores-cores.ensures.value, c.cores-cores.ensures.some) in
    over-where-none pair some_core

pub returns-else-some_actor_offers-clause-value : goal.returns-else-some_actor_offers-clause-value
returns-else-some_actor_offers-clause-value g c =
    let pair = g.A.Offers.pair c.args.state.now in
    let some_core : 1 ≤ pair.cores = omega (arith, c.cores-cores.ensures.value, c.cores-cores.ensures.some) in
    c.requires ∙ sym (stands pair some_core ∙ ap (λ b. cond b Unfinished (ending_of_run pair)) (sym c.some_actor_offers.ensures ∙ c.if-some_actor_offers.false))

pub returns-else-some_actor_offers-clause-over : goal.returns-else-some_actor_offers-clause-over
returns-else-some_actor_offers-clause-over g c =
    let pair = g.A.Offers.pair c.args.state.now in
    let some_core : 1 ≤ pair.cores = omega (arith, c.cores-cores.ensures.value, c.cores-cores.ensures.some) in
    over-where-none pair some_core
