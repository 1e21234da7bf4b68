use Rattle.slab.specs.Slab.{get}
use Rattle.std.proofs.Common.{sym, ◌∙◌}
use Rattle.sv_table.proofs.Paging.{leaf_below, no_middle}
use Rattle.sv_table.proofs.pages.leaf_of.Goals as goal

pub returns-in_err-middle : goal.returns-in_err-middle
returns-in_err-middle c = c.from_residual.ensures ∙ no_middle (get c.args.nodes.now) c.args.page c.requires (sym c.child_of.ensures ∙ c.in_err-middle.was)

pub returns : goal.returns
returns c = c.child_of-2.ensures ∙ leaf_below (get c.args.nodes.now) c.args.page c.requires c.in_ok-middle.middle (sym c.child_of.ensures ∙ c.in_ok-middle.was)
