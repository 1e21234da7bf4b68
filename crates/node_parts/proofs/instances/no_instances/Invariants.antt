use Rattle.node_parts.proofs.instances.no_instances.Given as goal
use Rattle.std.proofs.Common.{None, replicate, ◌≡◌}

abbrev pub invariant-loop : goal.invariant-loop
invariant-loop g l = l.slots.items ≡ replicate l.counter None
