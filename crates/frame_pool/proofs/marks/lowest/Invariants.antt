use Rattle.std.proofs.Common.{◌-◌}
use Rattle.frame_pool.proofs.Tree.{IsPath}
use Rattle.frame_pool.proofs.marks.lowest.Given as goal

-- a path from the root has come to k
abbrev pub invariant-loop-level : goal.invariant-loop-level
invariant-loop-level l = IsPath l.nodes l.leaves (l.height - l._level) l.k
