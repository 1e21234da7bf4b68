use Rattle.slab.specs.Slab.{get}
use Rattle.std.proofs.Common.{sym, ◌∙◌}
use Rattle.sv_table.proofs.Walked.{walk-none}
use Rattle.sv_table.proofs.pages.look_up.Goals as goal

pub returns-in_err-leaf : goal.returns-in_err-leaf
returns-in_err-leaf c = c.from_residual.ensures ∙ sym (walk-none (get c.args.nodes.now) c.args.page c.requires.low (sym c.leaf_of.ensures ∙ c.in_err-leaf.was))
