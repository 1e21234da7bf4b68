use Rattle.mck_word.specs.Maps.{and_then}
use Rattle.slab.specs.Slab.{get}
use Rattle.std.proofs.Common.{sym, ap, ◌∙◌, arith}
use Rattle.sv_table.proofs.Keys.{key_at-child, key_at-high, key_at-root}
use Rattle.sv_table.proofs.nodes.find.Goals as goal
use Rattle.sv_table.specs.Walks.{child, entry_above, key_at}

pub returns-then-place-eq0 : goal.returns-then-place-eq0
returns-then-place-eq0 c = sym (ap (key_at (get c.args.nodes.now)) c.if-place-eq0.true ∙ key_at-root (get c.args.nodes.now))

pub returns-then-place-lt513 : goal.returns-then-place-lt513
returns-then-place-lt513 c = key_at-child (get c.args.nodes.now) c.args.place (omega arith) c.if-place-lt513.true c.child_of.result c.child_of.ensures

pub returns-in_err-middle : goal.returns-in_err-middle
returns-in_err-middle c =
    let node = get c.args.nodes.now in
    let place = c.args.place in
    c.from_residual.ensures
    ∙ sym (key_at-high node place (omega arith) c.requires ∙ ap (λ o. and_then o (λ k. child node k (entry_above place))) (sym c.child_of-2.ensures ∙ c.in_err-middle.was))

pub returns : goal.returns
returns c =
    let node = get c.args.nodes.now in
    let place = c.args.place in
    c.child_of-3.ensures
    ∙ sym (key_at-high node place (omega arith) c.requires ∙ ap (λ o. and_then o (λ k. child node k (entry_above place))) (sym c.child_of-2.ensures ∙ c.in_ok-middle.was))
