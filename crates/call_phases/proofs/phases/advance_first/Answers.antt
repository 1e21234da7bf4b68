use Rattle.std.proofs.Common.{List, ◌∷◌, ◌+◌, ◌-◌, sym, ap, ◌∙◌}
use Rattle.std.specs.Prelude.{slice_get}
use Rattle.kernel_model.specs.declared.ranges.Range.{Range}
use Rattle.call_phases.proofs.RangeLists.{cut-items, past-items}
use Rattle.call_phases.proofs.phases.advance_first.Goals as goal

pub returns-then-n-first-clause-items : goal.returns-then-n-first-clause-items
returns-then-n-first-clause-items c =
    let first = sym c.in-Some.is ∙ c.copied.ensures ∙ c.first.ensures.value ∙ ap (λ (rs : List Range). slice_get rs 0) c.deref.ensures.0 in
    let q : Range = record { address = c.in-Some.first.address + c.args.n; len = c.in-Some.first.len - c.args.n } in
    c.insert.ensures.items ∙ ap (λ (rs : List Range). q ∷ rs) c.remove.ensures.items
    ∙ cut-items c.args.ranges.now.items c.in-Some.first c.args.n c.requires.full first c.if-n-first.true

pub returns-else-n-first-clause-items : goal.returns-else-n-first-clause-items
returns-else-n-first-clause-items c =
    let first = sym c.in-Some.is ∙ c.copied.ensures ∙ c.first.ensures.value ∙ ap (λ (rs : List Range). slice_get rs 0) c.deref.ensures.0 in
    c.remove.ensures.items ∙ past-items c.args.ranges.now.items c.in-Some.first c.args.n c.requires.full first c.if-n-first.false
