use Rattle.std.proofs.Common.{◌≡◌, ◌≢◌, ℕ, ◌*◌, ◌/◌, ◌<◌, ◌≤◌}
use Rattle.frame_pool.specs.Trees.{marked}
use Rattle.frame_pool.proofs.Tree.{RuleBut}
use Rattle.frame_pool.proofs.marks.mark.Given as goal

-- the rule holds but for the node above k
abbrev pub invariant-loop-k : goal.invariant-loop-k
invariant-loop-k l = record {
  low : 1 ≤ l.k;
  high : l.k < 2 * l.leaves;
  but : RuleBut l.nodes l.leaves (l.k / 2);
  leaf : marked l.nodes l.leaf ≡ l.free;
  others : (j : ℕ) → l.leaves ≤ j → j ≢ l.leaf → marked l.nodes j ≡ marked l.fn.nodes j;
}

abbrev pub decreases-loop-k : goal.decreases-loop-k
decreases-loop-k l = l.k
