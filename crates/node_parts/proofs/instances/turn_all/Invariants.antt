use Rattle.node_parts.proofs.instances.turn_all.Given as goal
use Rattle.node_parts.specs.Slotted.{turned_slots}
use Rattle.std.proofs.Common.{◌≡◌}
use Rattle.std.specs.Prelude.{nat_lt}

abbrev pub invariant-loop-slot : goal.invariant-loop-slot
invariant-loop-slot g l = l.slots ≡ turned_slots (λ i. nat_lt i l.slot-index) l.fn.slots
