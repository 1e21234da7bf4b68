use Rattle.std.proofs.Common.{arith}
use Rattle.file_tree.proofs.TreeKeeps.{bytes-most}
use Rattle.file_tree.proofs.tree.Tree.reserve_bytes.Goals as goal

pub overflow_sub-others : goal.overflow_sub-others
overflow_sub-others c = let most = bytes-most c.self.inside.nodes.map c.args.node in let is = c.self.invariant.bytes in let len = c.len_of-before.ensures.len in omega arith
