use Rattle.node_parts.proofs.Giving.{all_given}
use Rattle.node_parts.proofs.owners.give_lowest_of.Goals as goal
use Rattle.node_parts.specs.Partitions.{lowest_given}
use Rattle.std.proofs.Common.{arith}

pub returns-then-left-eq0 : goal.returns-then-left-eq0
returns-then-left-eq0 c =
    all_given c.args.i c.loop-slot.slot-index c.loop-slot.left c.loop-slot.places
    (lowest_given c.args.i c.args.n c.args.places.now) (omega (arith, c.if-left-eq0.true)) c.loop-slot.invariant
