use Rattle.std.proofs.Common.{◌≡◌, ◌<◌, length, nat_lt, ℕ, ◌+◌, ◌*◌, ◌^◌, ◌≤◌}
use Rattle.frame_pool.specs.Trees.{IsMarked, marked}
use Rattle.frame_pool.proofs.FramePool.new.Given as goal

-- the leaves double as long as they do not suffice
abbrev pub invariant-loop-level : goal.invariant-loop-level
invariant-loop-level l = record {
  power : l.leaves ≡ 2 ^ l.height;
  small : l.leaves ≤ 2 ^ 32;
  low : l.height ≤ l._level;
  enough : l.leaves < l.n → l.height ≡ l._level;
}

-- the frames below f are marked
abbrev pub invariant-loop-f : goal.invariant-loop-f
invariant-loop-f l = record {
  size : length l.nodes.items ≡ 2 * l.leaves;
  rule : IsMarked l.nodes.items l.leaves;
  set : (k : ℕ) → l.leaves ≤ k → marked l.nodes.items k ≡ nat_lt k (l.leaves + l.f);
}
