use Rattle.pair_node.proofs.Walked.{owners_below}
use Rattle.pair_node.proofs.members.Members.of_table.Given as goal
use Rattle.pair_node.specs.Listed.{IsListed}
use Rattle.std.specs.Prelude.{◌-◌}

abbrev pub invariant-loop-t : goal.invariant-loop-t
invariant-loop-t l = IsListed (owners_below l.table l.from.0) l.cores l.members

abbrev pub decreases-loop-t : goal.decreases-loop-t
decreases-loop-t l = l.table.threads.next - l.from.0
