use Rattle.file_tree.proofs.TreeMoves.{tree-new}
use Rattle.file_tree.proofs.tree.Tree.new.Goals as goal

pub invariant_of-result : goal.invariant_of-result
invariant_of-result c = tree-new c.in_ok-new.field-0 c.new-2.result.items c.new-3.result.counts c.in_ok-new.ensures.map c.new-2.ensures.items
