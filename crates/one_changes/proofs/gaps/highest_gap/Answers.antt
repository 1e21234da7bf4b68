use Rattle.lwk_changes.proofs.HighestGap.{highest-is}
use Rattle.mck_word.specs.Maps.{at}
use Rattle.one_changes.proofs.Falling.{covered, falls, is-highest}
use Rattle.one_changes.specs.Between.{gap_between}
use Rattle.one_memory.specs.Below.{IsLastBelow}
use Rattle.std.proofs.Common.{ap, arith, refl, sym, ◌∙◌}
use Rattle.std.specs.Prelude.{None, is_some, true, false, ℕ, ◌+◌, ◌<◌, ◌≡◌, ◌≤◌}
use Rattle.one_changes.proofs.gaps.highest_gap.Goals as goal
use Rattle.one_changes.proofs.gaps.highest_gap.Goals.{in-Some+then-page-lt-LOWEST, in_default}

pub returns-then-is_some-clause-gap : goal.returns-then-is_some-clause-gap
returns-then-is_some-clause-gap c =
    let m = c.args.memory.now.map in
    let n = c.args.pages in
    let was = c.loop-page.invariant in
    let page = c.in-Some.page in
    let last : IsLastBelow m c.loop-page.end page = c.in-Some.ensures in
    let high = c.if-page-lt-LOWEST.false in
    let below = last.below in
    let there : is_some c.gap_between-gap.result ≡ true = sym c.is_some.ensures ∙ c.if-is_some.true in
    highest-is m (covered m) (λ k. refl) n c.gap_between-gap.result
    (is-highest m n (page + 1) c.loop-page.end c.gap_between-gap.result (omega (arith, high)) (omega (arith, below)) was.to c.gap_between-gap.ensures
    (λ k a b. last.last k (omega (arith, a)) b) (λ f. absurd (let t = sym there ∙ f in grind (arith, t))) was.most)

pub loop-page-preserved : goal.loop-page-preserved
loop-page-preserved c =
    let m = c.args.memory.now.map in
    let n = c.args.pages in
    let was = c.loop-page.invariant in
    let page = c.in-Some.page in
    let last : IsLastBelow m c.loop-page.end page = c.in-Some.ensures in
    let high = c.if-page-lt-LOWEST.false in
    let below = last.below in
    let top = was.to in
    let none : is_some (gap_between (page + 1) c.loop-page.end n) ≡ false = ap is_some (sym c.gap_between-gap.ensures) ∙ (sym c.is_some.ensures ∙ c.if-is_some.false) in
    record { from = omega (arith, high); to = omega (arith, below, top); most = falls m n c.loop-page.end page last none was.most }

pub returns-clause-gap : goal.returns-clause-gap
returns-clause-gap c =
    let m = c.args.memory.now.map in
    let n = c.args.pages in
    let was = c.loop-page.invariant in
    let none : (k : ℕ) → 16 ≤ k → k < c.loop-page.end → at m k ≡ None = elim c.match-last_below.branch [
      | in-Some+then-page-lt-LOWEST w ↦ λ k a b.
          let last : IsLastBelow m c.loop-page.end w.in-Some.page = w.in-Some.ensures in
          let low = w.if-page-lt-LOWEST.true in
          last.last k (omega (arith, a, low)) b
      | in_default w ↦ λ k a b. w.in_default.ensures {u = tt} k b
    ] in
    highest-is m (covered m) (λ k. refl) n c.gap_between.result
    (is-highest m n 16 c.loop-page.end c.gap_between.result (omega arith) was.from was.to c.gap_between.ensures none (λ f. refl) was.most)
