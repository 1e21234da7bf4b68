use Rattle.node_parts.proofs.owners.give_lowest_of.Given as goal
use Rattle.node_parts.specs.Partitions.{lowest_given}
use Rattle.std.proofs.Common.{drop, take, ◌++◌, ◌≡◌}

abbrev pub invariant-loop-slot : goal.invariant-loop-slot
invariant-loop-slot l =
    take l.slot-index l.places ++ lowest_given l.i l.left (drop l.slot-index l.places) ≡ lowest_given l.i l.n
    l.fn.places
