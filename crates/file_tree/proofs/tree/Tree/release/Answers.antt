use Rattle.file_tree.proofs.TreeMoves.{tree-released}
use Rattle.file_tree.proofs.tree.Tree.release.Goals as goal

pub invariant_of-self : goal.invariant_of-self
invariant_of-self c =
    tree-released c.self.inside.nodes c.settle.new.nodes c.self.inside.names.items c.self.inside.holds.counts c.lower.new.self.counts c.self.inside.bytes c.settle.new.bytes c.args.node c.self.invariant c.lower.ensures.counts
    c.settle.ensures.map c.settle.ensures.bytes (c.settle.ensures.index c.self.inside.names.items c.self.invariant.index)
