use Rattle.slab.specs.Slab.{get}
use Rattle.std.proofs.Common.{sym, ◌∙◌}
use Rattle.sv_table.proofs.Paging.{leaf_found, leaf_needed, middle_found, middle_needed}
use Rattle.sv_table.proofs.pages.path_of.Goals as goal

pub unreachable-requires : goal.unreachable-requires
unreachable-requires c = middle_needed (get c.args.nodes.now) c.args.page c.requires.there (sym c.child_of.ensures ∙ c.in_default.is)

pub unreachable-requires-in_default-child_of : goal.unreachable-requires-in_default-child_of
unreachable-requires-in_default-child_of c =
    leaf_needed (get c.args.nodes.now) c.args.page c.in-Some.middle c.requires.there (sym c.child_of.ensures ∙ c.in-Some.is) (sym c.child_of-2.ensures ∙ c.in_default-child_of.is)

pub returns-clause-middle : goal.returns-clause-middle
returns-clause-middle c = middle_found (get c.args.nodes.now) c.args.page c.requires.low c.in-Some.middle (sym c.child_of.ensures ∙ c.in-Some.is)

pub returns-clause-leaf : goal.returns-clause-leaf
returns-clause-leaf c =
    leaf_found (get c.args.nodes.now) c.args.page c.requires.low c.in-Some.middle c.in-Some-child_of.leaf (sym c.child_of.ensures ∙ c.in-Some.is) (sym c.child_of-2.ensures ∙ c.in-Some-child_of.is)
