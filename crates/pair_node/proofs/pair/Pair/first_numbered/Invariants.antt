use Rattle.hybrid_model.specs.Events.{may}
use Rattle.mck_word.specs.Lists.{count_from}
use Rattle.pair_core.specs.Shown.{pair_of}
use Rattle.pair_offers.proofs.First.{below}
use Rattle.pair_node.proofs.pair.Pair.first_numbered.Given as goal
use Rattle.pair_offers.specs.Seeking.{event_of}
use Rattle.std.specs.Prelude.{find, map, ◌-◌, ◌≡◌}

abbrev pub invariant-loop-number : goal.invariant-loop-number
invariant-loop-number g l =
    let pair = pair_of g.T.PageTable.rows g.F.FileStore.files l.self.parts in find (may pair) (map (event_of l.what) (count_from 0 l.count)) ≡ find (may pair) (map (event_of l.what) (below l.number l.count))

abbrev pub decreases-loop-number : goal.decreases-loop-number
decreases-loop-number g l = l.count - l.number
