use Rattle.std.proofs.Common.{arith}
use Rattle.file_tree.proofs.TreeMoves.{bytes-unnamed, tree-unlinked}
use Rattle.file_tree.proofs.tree.Tree.unlink.Goals as goal

pub settle-requires : goal.settle-requires
settle-requires c = bytes-unnamed c.self.inside.nodes.map c.unname.new.nodes.map c.args.node c.self.inside.bytes c.unname.ensures.map c.self.invariant.bytes

pub invariant_of-self : goal.invariant_of-self
invariant_of-self c =
    tree-unlinked c.self.inside.nodes c.settle.new.nodes c.self.inside.names.items c.unname.new.names.items c.self.inside.holds.counts c.unname.new.nodes.map c.self.inside.bytes c.settle.new.bytes c.args.node c.self.invariant
    c.unname.ensures.map c.settle.ensures.map c.settle.ensures.bytes (c.settle.ensures.index c.unname.new.names.items c.unname.ensures.index)
    (let a = c.self.inside.names.ok.0 in let b = c.unname.new.names.ok.0 in let l = c.unname.ensures.len in omega arith)
