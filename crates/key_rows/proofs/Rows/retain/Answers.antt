use Rattle.std.proofs.Common.{◌≡◌, subst, sym, ap, ◌∙◌, rules, arith}
use Rattle.std.specs.Prelude.{T}
use Rattle.std.specs.Ordering.{nat_cmp}
use Rattle.std.specs.FinMap as map
use Rattle.std.specs.FinMap.{is_sorted, from_sorted}
use Rattle.std.proofs.lemmas.Fn.{filter_same}
use Rattle.key_rows.proofs.KeptRows.{kept-passing, length-passing, passing, sorted-passing}
use Rattle.key_rows.proofs.Placed.{len-from_sorted}
use Rattle.key_rows.specs.Keeping.{kept}
use Rattle.key_rows.proofs.Rows.retain.Goals as goal

left : (g : _) (c : goal.After-retain g) → c.retain.new.self.items ≡ passing (g.T.RowTest.passes c.args.test.now) c.self.inside.rows.items
left g c = filter_same _ (λ e. g.T.RowTest.passes c.args.test.now e.0 e.1) _ (λ x b f' k. search rules) _ _ c.retain.ensures.filtered

pub invariant_of-self : goal.invariant_of-self
invariant_of-self g c = subst (λ xs. T (is_sorted nat_cmp xs)) (sym (left g c)) (sorted-passing (g.T.RowTest.passes c.args.test.now) c.self.inside.rows.items c.self.invariant)

pub returns-clause-rest : goal.returns-clause-rest
returns-clause-rest g c = ap (from_sorted {R = nat_cmp}) (left g c) ∙ kept-passing (g.T.RowTest.passes c.args.test.now) _ c.self.invariant ∙ ap (λ t. kept (g.T.RowTest.passes c.args.test.now) t.map) c.self.view_is

pub returns-clause-fewer : goal.returns-clause-fewer
returns-clause-fewer g c =
    let es = c.self.inside.rows.items in
    let p = g.T.RowTest.passes c.args.test.now in
    let before = sym (len-from_sorted es c.self.invariant) ∙ ap (λ t. map.len t.map) c.self.view_is in
    let after = ap (λ xs. map.len (from_sorted {R = nat_cmp} xs)) (left g c) ∙ len-from_sorted (passing p es) (sorted-passing p es c.self.invariant) in
    let most = length-passing p es in
    omega arith
