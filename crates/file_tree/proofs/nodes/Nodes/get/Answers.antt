use Rattle.std.proofs.Common.{None, ap, sym, ◌∙◌}
use Rattle.file_tree.proofs.Stored.{lent-shown, shown-at}
use Rattle.mck_word.specs.Maps.{at}
use Rattle.std.specs.Option.{option_copied}
use Rattle.file_tree.proofs.nodes.Nodes.get.Goals as goal

pub returns-in-Some-clause-inode : goal.returns-in-Some-clause-inode
returns-in-Some-clause-inode c =
    lent-shown (λ r. r.inode) c.self.inside.slab c.self.inside.keys.map c.self.inside.next c.args.n c.in-Some.key.now (option_copied c.get-in-Some.result) c.self.invariant (sym c.in-Some.ensures) c.get-in-Some.ensures
    ∙ ap (λ t. at t.map c.args.n) c.self.view_is

pub returns-in-Some-clause-room : goal.returns-in-Some-clause-room
returns-in-Some-clause-room c =
    lent-shown (λ r. r.room) c.self.inside.slab c.self.inside.keys.map c.self.inside.next c.args.n c.in-Some.key.now (option_copied c.get-in-Some.result) c.self.invariant (sym c.in-Some.ensures) c.get-in-Some.ensures
    ∙ ap (λ t. at t.rooms c.args.n) c.self.view_is

pub returns-in-None-clause-inode : goal.returns-in-None-clause-inode
returns-in-None-clause-inode c =
    sym (shown-at (λ r. r.inode) c.self.inside.slab c.self.inside.keys.map c.self.inside.next c.args.n None c.self.invariant (sym c.in-None.ensures)) ∙ ap (λ t. at t.map c.args.n) c.self.view_is

pub returns-in-None-clause-room : goal.returns-in-None-clause-room
returns-in-None-clause-room c =
    sym (shown-at (λ r. r.room) c.self.inside.slab c.self.inside.keys.map c.self.inside.next c.args.n None c.self.invariant (sym c.in-None.ensures)) ∙ ap (λ t. at t.rooms c.args.n) c.self.view_is
