use Rattle.mck_flags.specs.declared.rights.Rights.{Rights}
use Rattle.mck_word.specs.declared.Frame.{Frame}
use Rattle.slab.specs.Slab.{get}
use Rattle.std.proofs.Common.{sym, ap, ◌∙◌}
use Rattle.std.specs.Prelude.{option_map}
use Rattle.sv_table.proofs.Opening.{opened}
use Rattle.sv_table.proofs.pages.change.Goals as goal

pub set_word-requires-clause-tree : goal.set_word-requires-clause-tree
set_word-requires-clause-tree c = opened (get c.args.nodes.now) c.path_of-leaf.result.1 c.requires.tree

pub returns-clause-here : goal.returns-clause-here
returns-clause-here c =
    c.set_word.ensures.here ∙ c.page_entry.ensures.row
    ∙ ap (option_map {T = Frame × Rights} {U = Frame × Rights} (λ w. (w.0, c.args.r))) (sym c.in-Some.is ∙ c.page_of.ensures ∙ c.word_of.ensures.value)
