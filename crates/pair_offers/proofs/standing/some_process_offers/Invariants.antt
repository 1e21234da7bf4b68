use Rattle.pair_offers.proofs.standing.some_process_offers.Given as goal
use Rattle.pair_offers.specs.Standing.{actors_of, some_offers}
use Rattle.std.specs.Prelude.{length, ◌≡◌}

abbrev pub invariant-loop-p : goal.invariant-loop-p
invariant-loop-p g l = let pair = g.A.Offers.pair l.state in some_offers pair (actors_of pair l.pids) ≡ some_offers pair (actors_of pair l.rest)

abbrev pub decreases-loop-p : goal.decreases-loop-p
decreases-loop-p g l = length l.rest
