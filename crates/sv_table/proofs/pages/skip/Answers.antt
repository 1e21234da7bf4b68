use Rattle.slab.specs.Slab.{get}
use Rattle.std.proofs.Common.{sym, ap, ◌∙◌, arith, ◌≡◌}
use Rattle.std.specs.Prelude.{is_some}
use Rattle.sv_table.proofs.Paging.{leaf_found, none_in_leaf, none_in_middle, page_in-off, page_in-on}
use Rattle.sv_table.proofs.pages.skip.Goals as goal
use Rattle.sv_table.specs.Walks.{walk}

pub returns-in_default-clause-absent : goal.returns-in_default-clause-absent
returns-in_default-clause-absent c = none_in_middle (get c.args.nodes.now) c.args.page (sym c.child_of.ensures ∙ c.in_default.is)

pub returns-in_default-child_of-clause-absent : goal.returns-in_default-child_of-clause-absent
returns-in_default-child_of-clause-absent c = none_in_leaf (get c.args.nodes.now) c.args.page c.in-Some.middle (sym c.child_of.ensures ∙ c.in-Some.is) (sym c.child_of-2.ensures ∙ c.in_default-child_of.is)

pub word_of-requires-clause-leaf : goal.word_of-requires-clause-leaf
word_of-requires-clause-leaf c =
    leaf_found (get c.args.nodes.now) c.args.page c.requires.low c.in-Some.middle c.in-Some-child_of.leaf (sym c.child_of.ensures ∙ c.in-Some.is) (sym c.child_of-2.ensures ∙ c.in-Some-child_of.is)

pub returns-then-is_there-clause-there : goal.returns-then-is_there-clause-there
returns-then-is_there-clause-there c = λ _. ap is_some (sym c.word_of.ensures.value) ∙ page_in-on c.word_of.result (sym c.is_there.ensures ∙ c.if-is_there.true)

pub returns-else-is_there-clause-absent : goal.returns-else-is_there-clause-absent
returns-else-is_there-clause-absent c = λ q a b.
    let same : q ≡ c.args.page = omega arith in
    ap (walk (get c.args.nodes.now)) same ∙ sym c.word_of.ensures.value ∙ page_in-off c.word_of.result (sym c.is_there.ensures ∙ c.if-is_there.false)
