use Rattle.pair_offers.proofs.First.{below}
use Rattle.mck_word.specs.Lists.{count_from}
use Rattle.pair_offers.proofs.standing.some_core_offers.Given as goal
use Rattle.pair_offers.specs.Standing.{some_offers}
use Rattle.run_model.specs.declared.actors.Actor.TheVariants.{Core}
use Rattle.std.specs.Prelude.{map, ◌-◌, ◌≡◌}

abbrev pub invariant-loop-core : goal.invariant-loop-core
invariant-loop-core g l = let pair = g.A.Offers.pair l.state in some_offers pair (map (λ c. Core c) (count_from 0 pair.cores)) ≡ some_offers pair (map (λ c. Core c) (below l.core pair.cores))

abbrev pub decreases-loop-core : goal.decreases-loop-core
decreases-loop-core g l = l.cores - l.core
