use Rattle.std.proofs.Common.{◌∙◌, ap, arith, length}
use Rattle.file_tree.proofs.TreeMoves.{tree-added}
use Rattle.file_model.specs.Paths as paths
use Rattle.file_tree.specs.Trees.{files_of}
use Rattle.std.specs.List.{insert}
use Rattle.file_tree.proofs.tree.Tree.insert.Goals as goal

pub invariant_of-self : goal.invariant_of-self
invariant_of-self c =
    let node = c.next-node.ensures in
    let x = c.new.ensures.inode in
    tree-added c.self.inside.nodes c.add-key.new.self c.self.inside.names.items c.deref.result.now c.insert_reserved.new.rows.items c.self.inside.holds.counts c.self.inside.bytes _ c.args.directory c.add-key.result
    c.place_of-i.result c.args.name.now c.new.result.inode c.self.invariant c.add-key.ensures.fresh c.add-key.ensures.free (ap (λ t. paths.child (files_of t) c.args.directory c.args.name.now) c.self.view_is ∙ c.requires.absent)
    (ap (λ y. y.parent) x) (ap (λ y. y.name) x) c.add-key.ensures.map c.add-key.ensures.keys c.deref.ensures.value c.place_of-i.ensures.at
    (c.insert_reserved.ensures.items ∙ ap (λ n. insert c.self.inside.names.items c.place_of-i.result (record { node = n; key = c.add-key.result })) node)
    (let long = ap (λ y. length y.bytes) x in let own = c.args.bytes.ok.0 in let len = c.len.ensures in omega arith)
    (let room = ap (λ t. t.spare) c.self.view_is in let a = c.self.inside.names.ok.0 in let b = c.insert_reserved.new.rows.ok.0 in omega arith)
