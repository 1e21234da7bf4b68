use Rattle.kernel_model.specs.Pages.{range}
use Rattle.lwk_changes.proofs.Counting.{count-here, count-skip, none-counted}
use Rattle.lwk_changes.proofs.Shown.{shown-absent, shown-there}
use Rattle.mck_word.specs.Pages.{in_range}
use Rattle.page_map.specs.NextLaws.{next-none, next-some}
use Rattle.std.proofs.Common.{◌≡◌, ◌<◌, ◌≤◌, arith, refl, sym, true, ℕ, ◌∙◌}
use Rattle.std.proofs.lemmas.Bool.Decides.{nat_tests}
use Rattle.std.specs.Prelude.{None, Option, Some}
use Rattle.lwk_changes.proofs.counts.count_present.Goals as goal

-- a page of a range that begins there lies from there on, and below the end
from-there : (from hi j : ℕ) → in_range (range from hi) j ≡ true → (from ≤ j) × (j < hi)
from-there from hi j e = (grind (arith, nat_tests, e), grind (arith, nat_tests, e))

no-some : (o : Option ℕ) → ((x : ℕ) → o ≡ Some x → ⊥) → o ≡ None
no-some None h = refl
no-some (Some x) h = absurd (h x refl)

pub loop-page-smaller : goal.loop-page-smaller
loop-page-smaller g c =
    let next = next-some (g.T.PageTable.rows c.args.table.now) c.loop-page.from c.in-Some.page (sym c.in-Some.ensures) in
    omega (arith, next.low)

pub loop-page-preserved : goal.loop-page-preserved
loop-page-preserved g c =
    let was = c.loop-page.invariant in
    let rows = g.T.PageTable.rows c.args.table.now in
    let page = c.in-Some.page in
    let from = c.loop-page.from in
    let hi = c.args.r.now.hi in
    let next = next-some rows from page (sym c.in-Some.ensures) in
    record {
      few = omega (arith, next.low, was.few);
      left = λ m h.
          let skip = count-skip m from page hi next.low (λ j a b. shown-absent rows m h j (next.least j a b)) in
          let x = shown-there rows m h page next.there in
          let here = count-here m page hi x.0 x.1 (omega arith) in
          let left = was.left m h in
          omega (arith, skip, here, left);
    }

pub returns-then-page-r : goal.returns-then-page-r
returns-then-page-r g c = λ m h.
    let rows = g.T.PageTable.rows c.args.table.now in
    let page = c.in-Some.page in
    let from = c.loop-page.from in
    let hi = c.args.r.now.hi in
    let next = next-some rows from page (sym c.in-Some.ensures) in
    let none = none-counted m (range from hi) (λ j i. let w = from-there from hi j i in shown-absent rows m h j (next.least j w.0 (let v = w.1 in omega arith))) in
    let left = c.loop-page.invariant.left m h in
    omega (arith, none, left)

pub returns-in_default : goal.returns-in_default
returns-in_default g c = λ m h.
    let rows = g.T.PageTable.rows c.args.table.now in
    let from = c.loop-page.from in
    let hi = c.args.r.now.hi in
    let gone = next-none rows from (sym c.next.ensures ∙ no-some c.next.result c.in_default.not-Some) in
    let none = none-counted m (range from hi) (λ j i. let w = from-there from hi j i in shown-absent rows m h j (gone j w.0)) in
    let left = c.loop-page.invariant.left m h in
    omega (arith, none, left)

pub overflow_add-count : goal.overflow_add-count
overflow_add-count g c =
    let next = next-some (g.T.PageTable.rows c.args.table.now) c.loop-page.from c.in-Some.page (sym c.in-Some.ensures) in
    omega (arith, next.low, c.loop-page.invariant.few)
