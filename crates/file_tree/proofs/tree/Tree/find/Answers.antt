use Rattle.std.proofs.Common.{◌∙◌, ap, sym}
use Rattle.file_model.specs.Paths as paths
use Rattle.file_tree.proofs.TreeWords.{index-child}
use Rattle.file_tree.specs.Index.{tagged}
use Rattle.file_tree.specs.Tags.{tag_cmp}
use Rattle.std.specs.FinMap.Entries.{find as look_up}
use Rattle.file_tree.specs.Trees.{files_of}
use Rattle.file_tree.proofs.tree.Tree.find.Goals as goal

pub returns : goal.returns
returns c =
    c.find.ensures ∙ ap (λ rows. look_up tag_cmp (c.args.directory, c.args.name.now) (tagged c.self.inside.nodes.map rows)) c.deref.ensures.value
    ∙ sym (index-child c.self.inside.nodes.map c.self.inside.nodes.keys c.self.inside.names.items c.self.invariant.index c.args.directory c.args.name.now)
    ∙ ap (λ t. paths.child (files_of t) c.args.directory c.args.name.now) c.self.view_is
