use Rattle.std.proofs.Common.{arith}
use Rattle.file_tree.proofs.TreeKeeps.{bytes-most}
use Rattle.file_tree.proofs.TreeMoves.{cut-none, tree-written}
use Rattle.std.specs.Prelude.{[]}
use Rattle.file_tree.proofs.tree.Tree.cut.Goals as goal

pub overflow_sub-self : goal.overflow_sub-self
overflow_sub-self c = let most = bytes-most c.self.inside.nodes.map c.args.node in let is = c.self.invariant.bytes in let len = c.len_of.ensures.len in omega arith

pub invariant_of-self : goal.invariant_of-self
invariant_of-self c =
    let most = bytes-most c.self.inside.nodes.map c.args.node in
    let is = c.self.invariant.bytes in
    let len = c.len_of.ensures.len in
    let none = cut-none c.self.inside.nodes.map c.clear.new.self.map c.args.node c.clear.ensures.map in
    tree-written c.self.inside.nodes c.clear.new.self c.self.inside.names.items c.self.inside.holds.counts c.self.inside.bytes c.args.node (λ _. []) _ c.self.invariant c.clear.ensures.map c.clear.ensures.keys (omega arith)
