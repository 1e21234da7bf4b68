use Rattle.std.proofs.Common.{ap, sym, ◌∙◌}
use Rattle.file_tree.proofs.Changed.{absent, changed-stored, contains, kept-map, none-if, room, room-made}
use Rattle.file_tree.proofs.nodes.Nodes.reserve_bytes.Goals as goal

pub index_mut-requires : goal.index_mut-requires
index_mut-requires c = contains c.self.inside.slab c.self.inside.keys.map c.self.inside.next c.args.n c.self.invariant c.in-Some.key (sym c.get.ensures ∙ sym c.in-Some.ensures)

pub invariant_of-self : goal.invariant_of-self
invariant_of-self c =
    changed-stored c.self.inside.slab c.self.inside.keys.map c.self.inside.next c.args.n c.self.invariant c.in-Some.key (sym c.get.ensures ∙ sym c.in-Some.ensures) c.index_mut.result.now c.reserve.new.self c.index_mut.ensures.value
    c.reserve.ensures.number

pub returns-in-None-clause-room : goal.returns-in-None-clause-room
returns-in-None-clause-room c =
    let none = absent c.self.inside.slab c.self.inside.keys.map c.self.inside.next c.args.n c.self.invariant room c.args.self.now.rooms (ap (λ t. t.rooms) c.self.view_is) (sym c.get.ensures ∙ sym c.in-None.ensures) in
    none-if c.args.self.now.rooms c.args.n c.args.end none

pub returns-in-Some-clause-map : goal.returns-in-Some-clause-map
returns-in-Some-clause-map c =
    kept-map c.self.inside.slab c.self.inside.keys.map c.self.inside.next c.args.n c.self.invariant c.in-Some.key (sym c.get.ensures ∙ sym c.in-Some.ensures) c.index_mut.result.now c.reserve.new.self c.index_mut.ensures.value
    c.args.self.now.map (ap (λ t. t.map) c.self.view_is) c.reserve.ensures.inode

pub returns-in-Some-clause-room : goal.returns-in-Some-clause-room
returns-in-Some-clause-room c =
    room-made c.self.inside.slab c.self.inside.keys.map c.self.inside.next c.args.n c.self.invariant c.in-Some.key (sym c.get.ensures ∙ sym c.in-Some.ensures) c.index_mut.result.now c.reserve.new.self c.index_mut.ensures.value
    c.reserve.result c.args.end c.reserve.ensures.room
