use Rattle.mck_word.specs.Pages.{in_ranges}
use Rattle.mck_word.specs.declared.PageRange.{PageRange}
use Rattle.std.proofs.Common.{◌≡◌, ◌+◌, ◌-◌, ◌<◌, ◌≤◌, arith, false, length, drop, subst, sym, ℕ, ap}
use Rattle.std.proofs.lemmas.List.{drop_all}
use Rattle.vm_areas.proofs.HighGaps.{IsSearched, search-down, search-found}
use Rattle.vm_areas.proofs.ranges.highest_gap.Goals.{else-loop-left-test, then-loop-left-test+then-saturating_add-high}
use Rattle.vm_areas.proofs.ranges.highest_gap.Goals as goal

abbrev no_range : PageRange
no_range = record { lo = 0; hi = 0 }

pub loop-left-init : goal.loop-left-init
loop-left-init c = record {
  within = omega arith;
  high = omega arith;
  searched = record {
    clear = λ p l. ap (λ xs. in_ranges xs p) (drop_all (length c.args.ranges.now) c.args.ranges.now (omega arith));
    highest = λ low gap. gap.to;
  };
}

pub loop-left-preserved : goal.loop-left-preserved
loop-left-preserved c =
    let i = c.loop-left.left - 1 in
    let e : i + 1 ≡ c.loop-left.left = omega arith in
    let was = subst (λ n. IsSearched c.args.ranges.now c.args.pages n c.loop-left.high) (sym e) c.loop-left.invariant.searched in
    let down = search-down c.args.ranges.now c.args.pages i c.loop-left.high no_range c.requires.rises c.requires.some (omega (arith, c.loop-left.invariant.within)) (omega (arith, c.loop-left.invariant.high)) was in
    record {
      within = omega (arith, c.loop-left.invariant.within);
      high = omega (arith, c.loop-left.invariant.high);
      searched = subst (IsSearched c.args.ranges.now c.args.pages i) (sym c.min-high.ensures) down;
    }

pub returns-then-saturating_add-high-2 : goal.returns-then-saturating_add-high-2
returns-then-saturating_add-high-2 c =
    let high = c.loop-left.high in
    let free : (p : ℕ) → high - c.args.pages ≤ p → p < high → in_ranges c.args.ranges.now p ≡ false = elim c.loop-left-test.branch [
      | else-loop-left-test w ↦ λ p a b.
          let e : c.loop-left.left ≡ 0 = omega arith in
          subst (λ n. in_ranges (drop n c.args.ranges.now) p ≡ false) e (c.loop-left.invariant.searched.clear p b)
      | then-loop-left-test+then-saturating_add-high w ↦ λ p a b.
          let i = c.loop-left.left - 1 in
          let e : i + 1 ≡ c.loop-left.left = omega arith in
          search-found c.args.ranges.now c.args.pages i c.loop-left.high no_range c.requires.rises (omega (arith, c.loop-left.invariant.within))
          (omega (arith, c.loop-left.invariant.high, w.saturating_add.ensures, w.if-saturating_add-high.true)) (subst (λ n. IsSearched c.args.ranges.now c.args.pages n c.loop-left.high) (sym e) c.loop-left.invariant.searched) p a b
    ] in (
      record { from = omega arith; to = omega (arith, c.loop-left.invariant.high); free = λ p a b. free p a (omega arith) },
      λ low gap. omega (arith, c.loop-left.invariant.searched.highest low gap),
    )

pub returns-else-saturating_add-high-2 : goal.returns-else-saturating_add-high-2
returns-else-saturating_add-high-2 c = λ low gap. let up = c.loop-left.invariant.searched.highest low gap in let l = gap.from in absurd (omega arith)
