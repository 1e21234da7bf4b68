use Rattle.file_tree.proofs.TreeMoves.{tree-held}
use Rattle.file_tree.proofs.tree.Tree.hold.Goals as goal

pub invariant_of-self : goal.invariant_of-self
invariant_of-self c = tree-held c.self.inside.nodes c.self.inside.names.items c.self.inside.holds.counts c.raise.new.self.counts c.self.inside.bytes c.args.node c.self.invariant c.raise.ensures.counts
