use Rattle.isa_model.specs.Memory.{Page}
use Rattle.key_rows.specs.Places.{IsRising}
use Rattle.key_rows.specs.Table.{Table}
use Rattle.mck_word.specs.Maps.{entries}
use Rattle.one_memory.proofs.Below.{last-below, none-below}
use Rattle.one_memory.proofs.PageRows.last_below.Goals as goal
use Rattle.std.proofs.Common.{ap, arith, subst, sym, ◌∙◌}
use Rattle.std.specs.FinMap.{entries_sorted}
use Rattle.std.specs.Prelude.{List, ℕ, ◌≡◌}

pub place_of-i-requires : goal.place_of-i-requires
place_of-i-requires c = subst (λ (es : List (ℕ × Page)). IsRising es) (sym c.as_slice-rows.ensures) (entries_sorted c.self.inside.rows.map)

pub returns-then-i-eq0 : goal.returns-then-i-eq0
returns-then-i-eq0 c =
    let es : List (ℕ × Page) = c.as_slice-rows.result.now in
    let is : es ≡ entries c.args.self.now.map = c.as_slice-rows.ensures ∙ ap (λ (t : Table Page). entries t.map) c.self.view_is in
    none-below c.args.self.now.map es c.args.end c.place_of-i.result is (subst (λ (xs : List (ℕ × Page)). IsRising xs) (sym is) (entries_sorted c.args.self.now.map)) c.place_of-i.ensures.at c.if-i-eq0.true

pub returns-else-i-eq0 : goal.returns-else-i-eq0
returns-else-i-eq0 c =
    let es : List (ℕ × Page) = c.as_slice-rows.result.now in
    let is : es ≡ entries c.args.self.now.map = c.as_slice-rows.ensures ∙ ap (λ (t : Table Page). entries t.map) c.self.view_is in
    last-below c.args.self.now.map es c.args.end c.place_of-i.result c.index-rows-i.result is (subst (λ (xs : List (ℕ × Page)). IsRising xs) (sym is) (entries_sorted c.args.self.now.map)) c.place_of-i.ensures.at c.place_of-i.ensures.within (let some = c.if-i-eq0.false in omega (arith, some))
