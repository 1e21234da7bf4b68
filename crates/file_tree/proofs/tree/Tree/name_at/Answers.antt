use Rattle.std.proofs.Common.{◌∙◌, ap, sym}
use Rattle.file_model.specs.Paths as paths
use Rattle.file_tree.proofs.TreeWords.{index-names}
use Rattle.file_tree.specs.Index.{names_under, tagged}
use Rattle.file_tree.specs.Trees.{files_of}
use Rattle.std.specs.Prelude.{slice_get}
use Rattle.file_tree.proofs.tree.Tree.name_at.Goals as goal

pub returns-clause-name : goal.returns-clause-name
returns-clause-name c =
    c.name_at.ensures.name ∙ ap (λ rows. slice_get (names_under c.args.directory (tagged c.self.inside.nodes.map rows)) c.args.k) c.deref.ensures.value
    ∙ ap (λ ns. slice_get ns c.args.k) (sym (index-names c.self.inside.nodes.map c.self.inside.nodes.keys c.self.inside.names.items c.self.invariant.index c.args.directory))
    ∙ ap (λ t. slice_get (paths.names_in (files_of t) c.args.directory) c.args.k) c.self.view_is
