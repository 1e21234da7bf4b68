use Rattle.isa_model.specs.Memory.{Memory, Page}
use Rattle.mck_flags.specs.declared.rights.Rights.{Rights}
use Rattle.mck_word.specs.Maps.{at}
use Rattle.one_changes.proofs.Lessening.{none-lessened, one-lessened}
use Rattle.one_changes.proofs.Ranged.{from-there, inside-is, no-some}
use Rattle.one_changes.specs.Lessened.{lessened_in}
use Rattle.page_map.specs.NextLaws.{next-none, next-some}
use Rattle.std.proofs.Common.{◌≡◌, ◌<◌, ◌≤◌, ap, arith, false, inl, inr, sym, ℕ, ◌∙◌}
use Rattle.std.proofs.lemmas.Bool.{cases_lt}
use Rattle.std.specs.Prelude.{None, Option}
use Rattle.one_changes.proofs.counts.lessens_any.Goals as goal

-- no page up to the next one would lose a right, since none is there
before-next : (m : Memory) (rights : Rights) (lo from page : ℕ) → ((k : ℕ) → lo ≤ k → k < from → lessened_in (at m k) rights ≡ false) → ((k : ℕ) → from ≤ k → k < page → at m k ≡ None)
    → (k : ℕ) → lo ≤ k → k < page → lessened_in (at m k) rights ≡ false
before-next m rights lo from page before none k a b = elim (cases_lt k from) [
  | inl low ↦ before k a low
  | inr high ↦ ap (λ (o : Option Page). lessened_in o rights) (none k high b)
]

pub loop-page-smaller : goal.loop-page-smaller
loop-page-smaller c =
    let next = next-some c.args.memory.now.map c.loop-page.from c.in-Some.page (sym c.in-Some.ensures) in
    omega (arith, next.low)

pub loop-page-preserved : goal.loop-page-preserved
loop-page-preserved c =
    let was = c.loop-page.invariant in
    let m = c.args.memory.now.map in
    let page = c.in-Some.page in
    let next = next-some m c.loop-page.from page (sym c.in-Some.ensures) in
    record {
      low = omega (arith, next.low, was.low);
      before = λ k a b. elim (cases_lt k page) [
        | inl low ↦ before-next m c.args.rights c.args.r.now.lo c.loop-page.from page was.before next.least k a low
        | inr high ↦ let same : k ≡ page = omega (arith, b, high) in ap (λ (n : ℕ). lessened_in (at m n) c.args.rights) same ∙ (sym c.is_lessened.ensures ∙ c.if-is_lessened.false)
      ];
    }

pub returns-then-page-r : goal.returns-then-page-r
returns-then-page-r c =
    let m = c.args.memory.now.map in
    let page = c.in-Some.page in
    let r = c.args.r.now in
    let next = next-some m c.loop-page.from page (sym c.in-Some.ensures) in
    sym (none-lessened m r c.args.rights (λ k i. let w = from-there r.lo r.hi k i in before-next m c.args.rights r.lo c.loop-page.from page c.loop-page.invariant.before next.least k w.0 (let v = w.1 in omega arith)))

pub returns-then-is_lessened : goal.returns-then-is_lessened
returns-then-is_lessened c =
    let m = c.args.memory.now.map in
    let page = c.in-Some.page in
    let r = c.args.r.now in
    let next = next-some m c.loop-page.from page (sym c.in-Some.ensures) in
    let inside = inside-is r.lo r.hi page (omega (arith, next.low, c.loop-page.invariant.low)) (omega arith) in
    sym (one-lessened m r c.args.rights page inside (sym c.is_lessened.ensures ∙ c.if-is_lessened.true))

pub returns-in_default : goal.returns-in_default
returns-in_default c =
    let m = c.args.memory.now.map in
    let r = c.args.r.now in
    let gone = next-none m c.loop-page.from (sym c.next.ensures ∙ no-some c.next.result c.in_default.not-Some) in
    sym (none-lessened m r c.args.rights (λ k i. let w = from-there r.lo r.hi k i in before-next m c.args.rights r.lo c.loop-page.from r.hi c.loop-page.invariant.before (λ j a b. gone j a) k w.0 w.1))
