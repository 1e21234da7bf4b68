use Rattle.std.proofs.Common.{ap, ◌∙◌}
use Rattle.file_tree.proofs.Stored.{lent-shown}
use Rattle.mck_word.specs.Maps.{at}
use Rattle.std.specs.Option.{option_copied}
use Rattle.file_tree.proofs.nodes.Nodes.stored.Goals as goal

pub returns : goal.returns
returns c = λ n e.
    lent-shown (λ r. r.inode) c.self.inside.slab c.self.inside.keys.map c.self.inside.next n c.args.key (option_copied c.get.result) c.self.invariant (ap (λ t. at t.keys n) c.self.view_is ∙ e) c.get.ensures
    ∙ ap (λ t. at t.map n) c.self.view_is
