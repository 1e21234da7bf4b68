use Rattle.std.proofs.Common.{Some, refl, subst, sym, ap, ◌∙◌, arith, get_or}
use Rattle.std.specs.Prelude.{T}
use Rattle.std.specs.Ordering.{nat_cmp}
use Rattle.std.specs.FinMap as map
use Rattle.std.specs.FinMap.{is_sorted, from_sorted, get-from_sorted}
use Rattle.std.specs.FinMap.Entries.{is_sorted-put}
use Rattle.std.specs.Cmp.{nat_cmp_total}
use Rattle.key_rows.specs.Places.{place}
use Rattle.key_rows.proofs.Placed.{found-at, found-key, find-at, has-key, lent-at, from_sorted-insert}
use Rattle.key_rows.proofs.Rows.row_mut.Goals as goal

pub index_mut-row-requires : goal.index_mut-row-requires
index_mut-row-requires g c =
    let some = has-key c.args.key c.self.inside.rows.items _ c.self.invariant (ap (λ t. t.map) c.self.view_is) c.requires in
    let within = found-at c.args.key c.self.inside.rows.items c.self.invariant some in
    let len = c.self.inside.rows.ok.0 in
    let here = c.place_of-i.ensures.at ∙ ap (place c.args.key) c.deref.ensures.value in
    omega arith

pub invariant_of-self-lent : goal.invariant_of-self-lent
invariant_of-self-lent g c w =
    let es = c.self.inside.rows.items in
    let here = c.place_of-i.ensures.at ∙ ap (place c.args.key) c.deref.ensures.value in
    let written = lent-at c.args.key w es _ _ _ c.self.invariant (ap (λ t. t.map) c.self.view_is) c.requires here c.index_mut-row.ensures.value in
    subst (λ xs. T (is_sorted nat_cmp xs)) (sym written) (is_sorted-put nat_cmp nat_cmp_total c.args.key w _ c.self.invariant)

pub returns : goal.returns
returns g c =
    let es = c.self.inside.rows.items in
    let d = c.index_mut-row.result.now in
    let here = c.place_of-i.ensures.at ∙ ap (place c.args.key) c.deref.ensures.value in
    let some = has-key c.args.key es _ c.self.invariant (ap (λ t. t.map) c.self.view_is) c.requires in (
      (
        refl,
        λ w.
            let written = lent-at c.args.key w es _ _ _ c.self.invariant (ap (λ t. t.map) c.self.view_is) c.requires here c.index_mut-row.ensures.value in
            let maps = ap (from_sorted {R = nat_cmp}) written ∙ sym (from_sorted-insert c.args.key w _ c.self.invariant) ∙ ap (λ t. map.insert t.map c.args.key w) c.self.view_is in
            λ i. record { map = maps i; spare = (c.self.view_is i).spare },
      ),
      record {
        writes_back = tt;
        value = sym (ap (λ t. map.get t.map c.args.key) c.self.view_is) ∙ get-from_sorted nat_cmp es c.args.key c.self.invariant
            ∙ find-at c.args.key es d (found-at c.args.key es c.self.invariant some) (found-key c.args.key es d c.self.invariant some)
            ∙ ap (λ e. Some e.1) (ap (λ i. get_or es i d) (sym here) ∙ sym c.index_mut-row.ensures.value);
      },
    )
