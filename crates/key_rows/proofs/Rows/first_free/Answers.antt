use Rattle.std.proofs.Common.{◌∙◌, ap, sym, length, arith}
use Rattle.key_rows.proofs.Placed.{len-from_sorted}
use Rattle.mck_word.specs.Lists.{lowest_not_in}
use Rattle.std.specs.FinMap as map
use Rattle.std.specs.FinMap.{entries-from_sorted}
use Rattle.std.specs.Ordering.{nat_cmp}
use Rattle.std.specs.Prelude.{map as map_list}
use Rattle.key_rows.proofs.Rows.first_free.Goals as goal

pub returns-clause-lowest : goal.returns-clause-lowest
returns-clause-lowest g c =
    let es = c.self.inside.rows.items in
    c.run_of.ensures.lowest ∙ ap (λ xs. lowest_not_in (map_list (λ e. e.0) xs)) c.deref.ensures.value
    ∙ ap (λ xs. lowest_not_in (map_list (λ e. e.0) xs)) (sym (entries-from_sorted nat_cmp es c.self.invariant))
    ∙ ap (λ t. lowest_not_in (map.keys t.map)) c.self.view_is

pub returns-clause-within : goal.returns-clause-within
returns-clause-within g c =
    let many = sym (len-from_sorted c.self.inside.rows.items c.self.invariant) ∙ ap (λ t. map.len t.map) c.self.view_is in
    let same = ap length c.deref.ensures.value in
    let most = c.run_of.ensures.within in
    omega arith
