use Rattle.std.proofs.Common.{ap, sym, ◌∙◌}
use Rattle.file_tree.proofs.Changed.{absent-cut, contains, removed-map, removed-stored}
use Rattle.file_tree.specs.CountLaws.{cut-absent}
use Rattle.mck_word.specs.Maps.{at}
use Rattle.file_tree.proofs.nodes.Nodes.remove.Goals as goal

pub remove-requires-in-Some : goal.remove-requires-in-Some
remove-requires-in-Some c = contains c.self.inside.slab c.self.inside.keys.map c.self.inside.next c.args.n c.self.invariant c.in-Some.key (sym c.get.ensures ∙ sym c.in-Some.ensures)

pub invariant_of-self : goal.invariant_of-self
invariant_of-self c =
    removed-stored c.self.inside.slab c.remove-in-Some.new.self c.self.inside.keys.map c.self.inside.next c.args.n c.in-Some.key c.self.invariant (sym c.get.ensures ∙ sym c.in-Some.ensures) c.remove-in-Some.ensures.updates
    c.remove.new.self.map (ap (λ t. t.map) c.remove.ensures.rest)

pub returns-in-None-clause-map : goal.returns-in-None-clause-map
returns-in-None-clause-map c =
    absent-cut c.self.inside.slab c.self.inside.keys.map c.self.inside.next c.args.n c.self.invariant c.args.self.now.map (ap (λ t. t.map) c.self.view_is) (sym c.get.ensures ∙ sym c.in-None.ensures)

pub returns-in-None-clause-keys : goal.returns-in-None-clause-keys
returns-in-None-clause-keys c = sym (cut-absent c.args.self.now.keys c.args.n (sym (ap (λ t. at t.keys c.args.n) c.self.view_is) ∙ sym c.get.ensures ∙ sym c.in-None.ensures))

pub returns-in-Some-clause-map : goal.returns-in-Some-clause-map
returns-in-Some-clause-map c =
    removed-map c.self.inside.slab c.remove-in-Some.new.self c.self.inside.keys.map c.self.inside.next c.args.n c.in-Some.key c.self.invariant (sym c.get.ensures ∙ sym c.in-Some.ensures) c.remove-in-Some.ensures.updates
    c.remove.new.self.map (ap (λ t. t.map) c.remove.ensures.rest) c.args.self.now.map (ap (λ t. t.map) c.self.view_is)
