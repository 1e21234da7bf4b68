use Rattle.std.proofs.Common.{ap, sym, ◌∙◌}
use Rattle.file_tree.proofs.Changed.{absent-change, changed-map, changed-stored, contains}
use Rattle.file_tree.proofs.nodes.Nodes.clear.Goals as goal

pub index_mut-requires : goal.index_mut-requires
index_mut-requires c = contains c.self.inside.slab c.self.inside.keys.map c.self.inside.next c.args.n c.self.invariant c.in-Some.key (sym c.get.ensures ∙ sym c.in-Some.ensures)

pub invariant_of-self : goal.invariant_of-self
invariant_of-self c =
    changed-stored c.self.inside.slab c.self.inside.keys.map c.self.inside.next c.args.n c.self.invariant c.in-Some.key (sym c.get.ensures ∙ sym c.in-Some.ensures) c.index_mut.result.now c.clear.new.self c.index_mut.ensures.value
    c.clear.ensures.number

pub returns-in-None-clause-map : goal.returns-in-None-clause-map
returns-in-None-clause-map c =
    absent-change c.self.inside.slab c.self.inside.keys.map c.self.inside.next c.args.n c.self.invariant c.args.self.now.map _ (ap (λ t. t.map) c.self.view_is) (sym c.get.ensures ∙ sym c.in-None.ensures)

pub returns-in-Some-clause-map : goal.returns-in-Some-clause-map
returns-in-Some-clause-map c =
    changed-map c.self.inside.slab c.self.inside.keys.map c.self.inside.next c.args.n c.self.invariant c.in-Some.key (sym c.get.ensures ∙ sym c.in-Some.ensures) c.index_mut.result.now c.clear.new.self c.index_mut.ensures.value _
    c.args.self.now.map (ap (λ t. t.map) c.self.view_is) c.clear.ensures.inode
