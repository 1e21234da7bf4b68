use Rattle.pair_offers.proofs.First.{below}
use Rattle.mck_word.specs.Lists.{count_from}
use Rattle.pair_offers.proofs.standing.some_worker_offers.Given as goal
use Rattle.pair_offers.specs.Standing.{some_offers}
use Rattle.run_model.specs.declared.actors.Actor.TheVariants.{Worker}
use Rattle.std.specs.Prelude.{map, ◌-◌, ◌≡◌}

abbrev pub invariant-loop-worker : goal.invariant-loop-worker
invariant-loop-worker g l = let pair = g.A.Offers.pair l.state in some_offers pair (map (λ w. Worker l.p w) (count_from 0 pair.workers)) ≡ some_offers pair (map (λ w. Worker l.p w) (below l.worker pair.workers))

abbrev pub decreases-loop-worker : goal.decreases-loop-worker
decreases-loop-worker g l = l.workers - l.worker
