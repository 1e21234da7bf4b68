use Rattle.std.proofs.Common.{◌≡◌, ◌<◌, ap, arith, sym, ◌∙◌}
use Rattle.file_tree.proofs.Changed.{absent, added-map, added-stored, inode, next-free}
use Rattle.file_tree.specs.Tables.{most_numbers}
use Rattle.mck_word.specs.Maps.{at, put}
use Rattle.file_tree.proofs.nodes.Nodes.add.Goals as goal

pub invariant_of-self : goal.invariant_of-self
invariant_of-self c =
    let room = ap (λ t. t.spare) c.self.view_is in
    let less : c.self.inside.next < most_numbers = omega arith in
    let next = ap (λ t. t.next) c.self.view_is in
    added-stored c.self.inside.slab c.insert_reserved-key.new.self c.self.inside.keys.map c.self.inside.next c.insert_reserved-key.result c.self.invariant c.args.node c.insert.new.self.map
    (c.requires.number ∙ (let e : c.args.self.now.next ≡ c.self.inside.next = omega arith in e)) less c.insert_reserved-key.ensures.was_vacant c.insert_reserved-key.ensures.updates (ap (λ t. t.map) c.insert.ensures)

pub returns-clause-map : goal.returns-clause-map
returns-clause-map c =
    added-map c.self.inside.slab c.insert_reserved-key.new.self c.self.inside.keys.map c.self.inside.next c.insert_reserved-key.result c.self.invariant c.args.node c.args.self.now.map c.insert.new.self.map
    c.insert_reserved-key.ensures.was_vacant c.insert_reserved-key.ensures.updates (ap (λ t. t.map) c.insert.ensures) (ap (λ t. t.map) c.self.view_is)
    ∙ ap (λ n. put c.args.self.now.map n c.args.node.inode) (ap (λ t. t.next) c.self.view_is)

pub returns-clause-fresh : goal.returns-clause-fresh
returns-clause-fresh c =
    let m = c.args.self.now.map in
    let next = ap (λ t. t.next) c.self.view_is in
    ap (at m) (sym next)
    ∙ absent c.self.inside.slab c.self.inside.keys.map c.self.inside.next c.self.inside.next c.self.invariant inode m (ap (λ t. t.map) c.self.view_is)
    (next-free c.self.inside.slab c.self.inside.slab c.self.inside.keys.map c.self.inside.next c.insert_reserved-key.result c.self.invariant)
