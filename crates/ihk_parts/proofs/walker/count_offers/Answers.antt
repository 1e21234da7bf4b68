use Rattle.ihk_parts.proofs.Passed.{get-below, length-offers}
use Rattle.ihk_parts.proofs.walker.count_offers.Goals as goal
use Rattle.ihk_parts.specs.Passing.{as_chosen, offers_of}
use Rattle.run_model.specs.Walks.{actors}
use Rattle.std.proofs.Common.{arith}

pub unreachable-requires : goal.unreachable-requires
unreachable-requires g c =
    let pair = g.P.Offers.pair c.args.machine.now in
    omega (arith, get-below (offers_of pair (actors pair)) c.count_actors-most.result (as_chosen c.in-Some.field-0) c.in-Some.ensures.goes, length-offers pair (actors pair), c.count_actors-most.ensures)
