use Rattle.pair_node.proofs.Walked.{gone_below}
use Rattle.pair_node.proofs.members.Members.take_gone.Given as goal
use Rattle.pair_node.specs.Listed.{IsListed, Owners, owners}
use Rattle.std.specs.Prelude.{◌-◌, ◌^◌}

abbrev pub invariant-loop-t : goal.invariant-loop-t
invariant-loop-t l = (f : Owners) → IsListed f l.cores l.fn.self → IsListed (gone_below l.p.0 (owners l.table) f l.from) l.cores l.self

abbrev pub decreases-loop-t : goal.decreases-loop-t
decreases-loop-t l = 2 ^ 32 - l.from
