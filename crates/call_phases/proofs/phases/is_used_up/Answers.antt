use Rattle.std.proofs.Common.{◌≡◌, ◌≢◌, List, ℕ, false, nat_eq, length, inl, sym, ap, ◌∙◌, arith}
use Rattle.std.proofs.lemmas.Bool.Decides.{nat_tests}
use Rattle.std.specs.Prelude.{slice_get}
use Rattle.kernel_model.specs.declared.ranges.Range.{Range}
use Rattle.call_phases.proofs.RangeLists.{left-over}
use Rattle.call_phases.proofs.phases.is_used_up.Goals as goal

differ : (k : ℕ) → k ≢ 1 → nat_eq k 1 ≡ false
differ k d = grind (arith, nat_tests, d)

pub returns-else-len-eq1 : goal.returns-else-len-eq1
returns-else-len-eq1 c =
    let items = c.args.ranges.now.items in
    let first = c.in-Some.ensures.value ∙ ap (λ (rs : List Range). slice_get rs 0) c.deref.ensures.0 in
    let other : length items ≢ 1 = λ e. c.if-len-eq1.false (c.len.ensures.value ∙ e) in
    differ c.len.result c.if-len-eq1.false ∙ sym (left-over items c.in-Some.first.now c.args.n c.requires first (inl other))
