use Rattle.hybrid_model.specs.Sides.{Row}
use Rattle.kernel_model.specs.Pages.{range}
use Rattle.lwk_changes.proofs.Shown.{none-lessened, one-lessened}
use Rattle.lwk_changes.specs.Shows.{lessened_in}
use Rattle.mck_flags.specs.declared.rights.Rights.{Rights}
use Rattle.mck_word.specs.Maps.{Map, at}
use Rattle.mck_word.specs.Pages.{in_range}
use Rattle.page_map.specs.NextLaws.{next-none, next-some}
use Rattle.std.proofs.Common.{◌≡◌, ◌<◌, ◌≤◌, ap, arith, false, inl, inr, refl, sym, true, ℕ, ◌∙◌}
use Rattle.std.proofs.lemmas.Bool.Decides.{nat_tests}
use Rattle.std.proofs.lemmas.Bool.{cases_lt}
use Rattle.std.specs.Prelude.{None, Option, Some}
use Rattle.lwk_changes.proofs.counts.lessens_any.Goals as goal

from-there : (from hi j : ℕ) → in_range (range from hi) j ≡ true → (from ≤ j) × (j < hi)
from-there from hi j e = (grind (arith, nat_tests, e), grind (arith, nat_tests, e))

no-some : (o : Option ℕ) → ((x : ℕ) → o ≡ Some x → ⊥) → o ≡ None
no-some None h = refl
no-some (Some x) h = absurd (h x refl)

-- no page up to the next one would lose a right, since none is there
before-next : (rows : Map Row) (rights : Rights) (lo from page : ℕ) → ((k : ℕ) → lo ≤ k → k < from → lessened_in (at rows k) rights ≡ false) → ((k : ℕ) → from ≤ k → k < page → at rows k ≡ None)
    → (k : ℕ) → lo ≤ k → k < page → lessened_in (at rows k) rights ≡ false
before-next rows rights lo from page before none k a b = elim (cases_lt k from) [
  | inl low ↦ before k a low
  | inr high ↦ ap (λ (o : Option Row). lessened_in o rights) (none k high b)
]

pub loop-page-smaller : goal.loop-page-smaller
loop-page-smaller g c =
    let next = next-some (g.T.PageTable.rows c.args.table.now) c.loop-page.from c.in-Some.page (sym c.in-Some.ensures) in
    omega (arith, next.low)

pub loop-page-preserved : goal.loop-page-preserved
loop-page-preserved g c =
    let was = c.loop-page.invariant in
    let rows = g.T.PageTable.rows c.args.table.now in
    let page = c.in-Some.page in
    let next = next-some rows c.loop-page.from page (sym c.in-Some.ensures) in
    record {
      low = omega (arith, next.low, was.low);
      before = λ k a b. elim (cases_lt k page) [
        | inl low ↦ before-next rows c.args.rights c.args.r.now.lo c.loop-page.from page was.before next.least k a low
        | inr high ↦ let same : k ≡ page = omega (arith, b, high) in ap (λ (n : ℕ). lessened_in (at rows n) c.args.rights) same ∙ (sym c.is_lessened.ensures ∙ c.if-is_lessened.false)
      ];
    }

pub returns-then-page-r : goal.returns-then-page-r
returns-then-page-r g c = λ m h.
    let rows = g.T.PageTable.rows c.args.table.now in
    let page = c.in-Some.page in
    let r = c.args.r.now in
    let next = next-some rows c.loop-page.from page (sym c.in-Some.ensures) in
    sym (none-lessened rows m h r c.args.rights (λ k i. let w = from-there r.lo r.hi k i in before-next rows c.args.rights r.lo c.loop-page.from page c.loop-page.invariant.before next.least k w.0 (let v = w.1 in omega arith)))

inside-is : (lo hi k : ℕ) → lo ≤ k → k < hi → in_range (range lo hi) k ≡ true
inside-is lo hi k a b = grind (arith, nat_tests, a, b)

pub returns-then-is_lessened : goal.returns-then-is_lessened
returns-then-is_lessened g c = λ m h.
    let rows = g.T.PageTable.rows c.args.table.now in
    let page = c.in-Some.page in
    let r = c.args.r.now in
    let next = next-some rows c.loop-page.from page (sym c.in-Some.ensures) in
    let inside = inside-is r.lo r.hi page (omega (arith, next.low, c.loop-page.invariant.low)) (omega arith) in
    sym (one-lessened rows m h r c.args.rights page inside next.there (sym c.is_lessened.ensures ∙ c.if-is_lessened.true))

pub returns-in_default : goal.returns-in_default
returns-in_default g c = λ m h.
    let rows = g.T.PageTable.rows c.args.table.now in
    let r = c.args.r.now in
    let gone = next-none rows c.loop-page.from (sym c.next.ensures ∙ no-some c.next.result c.in_default.not-Some) in
    sym (none-lessened rows m h r c.args.rights (λ k i. let w = from-there r.lo r.hi k i in before-next rows c.args.rights r.lo c.loop-page.from r.hi c.loop-page.invariant.before (λ j a b. gone j a) k w.0 w.1))
