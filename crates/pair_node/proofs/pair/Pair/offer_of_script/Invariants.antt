use Rattle.hybrid_model.specs.Events.{may}
use Rattle.hybrid_model.specs.declared.events.Event.TheVariants.{Script}
use Rattle.kernel_model.specs.Nodes.{ScriptLine}
use Rattle.pair_core.specs.Shown.{pair_of}
use Rattle.pair_node.proofs.pair.Pair.offer_of_script.Given as goal
use Rattle.std.specs.Prelude.{drop, find, length, map, ◌-◌, ◌≡◌}

abbrev pub invariant-loop-index : goal.invariant-loop-index
invariant-loop-index g l =
    let pair = pair_of g.T.PageTable.rows g.F.FileStore.files l.self.parts in
    find (may pair) (map (λ (x : ScriptLine). Script x.index) pair.node.unsent) ≡ find (may pair) (map (λ (x : ScriptLine). Script x.index) (drop l.place pair.node.unsent))

abbrev pub decreases-loop-index : goal.decreases-loop-index
decreases-loop-index g l = let pair = pair_of g.T.PageTable.rows g.F.FileStore.files l.self.parts in length pair.node.unsent - l.place
