use Rattle.pair_core.specs.Shown.{pair_of}
use Rattle.pair_node.proofs.summary.ends.Given as goal
use Rattle.pair_node.specs.Summed.{end_at}
use Rattle.std.specs.Prelude.{map, take, ◌≡◌}

abbrev pub invariant-loop-pid : goal.invariant-loop-pid
invariant-loop-pid g l = l.ends ≡ map (end_at (pair_of g.T.PageTable.rows g.F.FileStore.files l.parts).node) (take l.pid-index l.pids)
