use Rattle.kernel_model.specs.Spaces.{drop_page, each_page}
use Rattle.key_rows.specs.Table.{Table}
use Rattle.isa_model.specs.Memory.{Page}
use Rattle.mck_word.specs.Maps.{count, cut}
use Rattle.one_memory.proofs.Next.{next-none, next-some}
use Rattle.one_memory.proofs.Paging.{count-cut, drop-next, drop-none, low-cut}
use Rattle.one_memory.specs.Changing.{spaced}
use Rattle.one_memory.specs.Pages.{AreLow}
use Rattle.std.proofs.Common.{◌≡◌, ◌+◌, ◌-◌, ap, arith, refl, subst, sym, ◌∙◌, ℕ}
use Rattle.std.specs.Prelude.{None, Option, Some}
use Rattle.one_memory.proofs.changes.drop_pages.Goals as goal

no-some : (o : Option ℕ) → ((x : ℕ) → o ≡ Some x → ⊥) → o ≡ None
no-some None h = refl
no-some (Some x) h = absurd (h x refl)

pub loop-page-init : goal.loop-page-init
loop-page-init c = record {
  few = omega arith;
  left = λ free. let e : free + 0 ≡ free = omega arith in ap (λ n. each_page drop_page (c.args.r.now.hi - c.args.r.now.lo) c.args.r.now.lo (spaced c.args.rows.now.map n)) e;
  fewer = omega arith;
  room = omega arith;
  low = c.requires;
}

pub remove-row-requires : goal.remove-row-requires
remove-row-requires c = (next-some c.loop-page.rows.map c.loop-page.from c.in-Some.page (sym c.in-Some.ensures)).there

pub loop-page-smaller : goal.loop-page-smaller
loop-page-smaller c =
    let next = next-some c.loop-page.rows.map c.loop-page.from c.in-Some.page (sym c.in-Some.ensures) in
    let low = next.low in
    omega (arith, low)

pub loop-page-preserved : goal.loop-page-preserved
loop-page-preserved c =
    let was = c.loop-page.invariant in
    let m = c.loop-page.rows.map in
    let page = c.in-Some.page in
    let from = c.loop-page.from in
    let next = next-some m from page (sym c.in-Some.ensures) in
    let is : c.remove-row.new.self.map ≡ cut m page = ap (λ (t : Table Page). t.map) c.remove-row.ensures.rest in
    let spare = ap (λ (t : Table Page). t.spare) c.remove-row.ensures.rest in
    let fewer = count-cut m page next.there in
    let counted = ap count is in
    let low = next.low in
    let few = was.few in
    let before = was.fewer in
    let room = was.room in
    record {
      few = omega (arith, low, few);
      left = λ free. (let e : free + (c.loop-page.dropped + 1) ≡ free + c.loop-page.dropped + 1 = omega arith in
          ap (λ n. each_page drop_page (c.args.r.now.hi - (page + 1)) (page + 1) (spaced c.remove-row.new.self.map n)) e
          ∙ drop-next m c.remove-row.new.self.map (free + c.loop-page.dropped) from page c.args.r.now.hi low (omega arith) is next.there next.least ∙ was.left free);
      fewer = omega (arith, fewer, counted, before);
      room = omega (arith, spare, room);
      low = subst AreLow (sym is) (low-cut m page was.low);
    }

pub overflow_add-dropped : goal.overflow_add-dropped
overflow_add-dropped c =
    let next = next-some c.loop-page.rows.map c.loop-page.from c.in-Some.page (sym c.in-Some.ensures) in
    let low = next.low in
    let few = c.loop-page.invariant.few in
    omega (arith, low, few)

pub returns-then-page-r-clause-after : goal.returns-then-page-r-clause-after
returns-then-page-r-clause-after c = λ free.
    let m = c.loop-page.rows.map in
    let next = next-some m c.loop-page.from c.in-Some.page (sym c.in-Some.ensures) in
    sym (drop-none (c.args.r.now.hi - c.loop-page.from) c.loop-page.from (spaced m (free + c.loop-page.dropped)) (λ k a b. next.least k a (omega arith))) ∙ c.loop-page.invariant.left free

pub returns-in_default-clause-after : goal.returns-in_default-clause-after
returns-in_default-clause-after c = λ free.
    let m = c.loop-page.rows.map in
    let none = next-none m c.loop-page.from (sym c.next.ensures ∙ no-some c.next.result c.in_default.not-Some) in
    sym (drop-none (c.args.r.now.hi - c.loop-page.from) c.loop-page.from (spaced m (free + c.loop-page.dropped)) (λ k a b. none k a)) ∙ c.loop-page.invariant.left free
