use Rattle.std.proofs.Common.{ap, arith, length}
use Rattle.file_tree.proofs.TreeKeeps.{bytes-most}
use Rattle.file_tree.proofs.TreeMoves.{tree-written, written-most}
use Rattle.file_tree.specs.Trees.{bytes_in, node_in}
use Rattle.mck_word.specs.Lists.{spliced}
use Rattle.file_tree.proofs.tree.Tree.write.Goals as goal

pub overflow_sub-others : goal.overflow_sub-others
overflow_sub-others c = let most = bytes-most c.self.inside.nodes.map c.args.node in let is = c.self.invariant.bytes in let len = c.len_of.ensures.len in omega arith

pub overflow_add-self : goal.overflow_add-self
overflow_add-self c =
    let is = c.self.invariant.bytes in
    let before = c.len_of.ensures.len in
    let after = c.len_of-2.ensures.len in
    let most = written-most c.self.inside.nodes.map c.write.new.self.map c.args.node c.args.offset c.args.from.now c.write.ensures.map in
    let fits = c.requires.total in
    let was = ap (λ t. length (node_in t.map c.args.node).bytes) c.self.view_is in
    let sum = ap (λ t. bytes_in t.map) c.self.view_is in
    omega arith

pub invariant_of-self : goal.invariant_of-self
invariant_of-self c =
    let most = bytes-most c.self.inside.nodes.map c.args.node in
    let is = c.self.invariant.bytes in
    let before = c.len_of.ensures.len in
    let after = c.len_of-2.ensures.len in
    tree-written c.self.inside.nodes c.write.new.self c.self.inside.names.items c.self.inside.holds.counts c.self.inside.bytes c.args.node (λ bs. spliced bs c.args.offset c.args.from.now) _ c.self.invariant c.write.ensures.map
    c.write.ensures.keys (omega arith)
