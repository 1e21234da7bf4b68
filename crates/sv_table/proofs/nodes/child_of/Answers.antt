use Rattle.std.proofs.Common.{sym, ap, ◌∙◌}
use Rattle.sv_table.proofs.EntryWords.{node_in-none}
use Rattle.sv_table.proofs.nodes.child_of.Goals as goal
use Rattle.sv_table.specs.Walks.{child, word_in}
use Rattle.sv_table.specs.Words.{node_in}

pub returns-in-Some : goal.returns-in-Some
unfolding child
returns-in-Some c = c.key_of.ensures ∙ ap node_in (c.word.ensures ∙ ap (λ o. word_in o c.args.i) c.in-Some.ensures)

pub returns-in-None : goal.returns-in-None
unfolding child
returns-in-None c = sym (ap (λ o. node_in (word_in o c.args.i)) (sym c.in-None.ensures) ∙ node_in-none)
