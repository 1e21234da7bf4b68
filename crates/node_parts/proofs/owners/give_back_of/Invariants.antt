use Rattle.node_parts.proofs.owners.give_back_of.Given as goal
use Rattle.node_parts.specs.Partitions.{given_back}
use Rattle.std.proofs.Common.{drop, take, ◌++◌, ◌≡◌}

abbrev pub invariant-loop-slot : goal.invariant-loop-slot
invariant-loop-slot l =
    take l.slot-index l.places ++ given_back l.i (drop l.slot-index l.places) ≡ given_back l.i l.fn.places
