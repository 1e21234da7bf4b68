use Rattle.hybrid_model.specs.Sides.{Row}
use Rattle.lwk_space.proofs.Copied.{count-none, from-zero, less-left}
use Rattle.lwk_space.proofs.Lowest.{no-some}
use Rattle.lwk_space.proofs.copies.count_rows.Goals as goal
use Rattle.mck_word.specs.Maps.{Map, at, count}
use Rattle.page_map.specs.NextLaws.{next-none, next-some}
use Rattle.std.proofs.Common.{ap, arith, refl, sym, ◌∙◌}
use Rattle.std.specs.Prelude.{None, Option, Some, is_some, true, ◌<◌, ◌^◌, ◌≡◌}

some-row : (o : Option Row) → is_some o ≡ true → (w : Row) × (o ≡ Some w)
some-row None e = absurd (cc)
some-row (Some w) e = (w, refl)

pub loop-page-init : goal.loop-page-init
loop-page-init g c =
    let a = ap (λ (m : Map Row). count m) (from-zero (g.T.PageTable.rows c.args.table.now)) in
    record { counted = omega (arith, a); few = omega arith }

pub loop-page-preserved : goal.loop-page-preserved
loop-page-preserved g c =
    let was = c.loop-page.invariant in
    let rows = g.T.PageTable.rows c.args.table.now in
    let next = next-some rows c.loop-page.from c.in-Some.page (sym c.next.ensures ∙ c.in-Some.is) in
    let row = some-row (at rows c.in-Some.page) next.there in
    let less = less-left c.loop-page.from c.in-Some.page rows row.0 row.1 next.low next.least in
    let counted = was.counted in
    let few = was.few in
    let low = next.low in
    record { counted = omega (arith, less, counted); few = omega (arith, few, low) }

pub overflow_add-pages : goal.overflow_add-pages
overflow_add-pages g c =
    let rows = g.T.PageTable.rows c.args.table.now in
    let next = next-some rows c.loop-page.from c.in-Some.page (sym c.next.ensures ∙ c.in-Some.is) in
    let below : c.in-Some.page < 2 ^ 27 = c.get-row.ensures.below (ap is_some c.get-row.ensures.row ∙ next.there) in
    let low = next.low in
    let few = c.loop-page.invariant.few in
    omega (arith, below, low, few)

pub overflow_add-from : goal.overflow_add-from
overflow_add-from g c =
    let rows = g.T.PageTable.rows c.args.table.now in
    let next = next-some rows c.loop-page.from c.in-Some.page (sym c.next.ensures ∙ c.in-Some.is) in
    let below : c.in-Some.page < 2 ^ 27 = c.get-row.ensures.below (ap is_some c.get-row.ensures.row ∙ next.there) in
    omega (arith, below)

pub loop-page-smaller : goal.loop-page-smaller
loop-page-smaller g c =
    let rows = g.T.PageTable.rows c.args.table.now in
    let next = next-some rows c.loop-page.from c.in-Some.page (sym c.next.ensures ∙ c.in-Some.is) in
    let below : c.in-Some.page < 2 ^ 27 = c.get-row.ensures.below (ap is_some c.get-row.ensures.row ∙ next.there) in
    let low = next.low in
    omega (arith, below, low)

pub returns : goal.returns
returns g c =
    let rows = g.T.PageTable.rows c.args.table.now in
    let none = next-none rows c.loop-page.from (sym c.next.ensures ∙ no-some c.next.result c.in_default.not-Some) in
    let a = count-none c.loop-page.from rows none in
    let counted = c.loop-page.invariant.counted in
    omega (arith, a, counted)
