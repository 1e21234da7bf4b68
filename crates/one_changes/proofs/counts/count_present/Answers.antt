use Rattle.kernel_model.specs.Pages.{range}
use Rattle.lwk_changes.proofs.Counting.{count-here, count-skip, none-counted}
use Rattle.one_changes.proofs.Ranged.{from-there, no-some, there-is}
use Rattle.page_map.specs.NextLaws.{next-none, next-some}
use Rattle.std.proofs.Common.{arith, sym, ◌∙◌}
use Rattle.one_changes.proofs.counts.count_present.Goals as goal

pub loop-page-smaller : goal.loop-page-smaller
loop-page-smaller c =
    let next = next-some c.args.memory.now.map c.loop-page.from c.in-Some.page (sym c.in-Some.ensures) in
    omega (arith, next.low)

pub loop-page-preserved : goal.loop-page-preserved
loop-page-preserved c =
    let was = c.loop-page.invariant in
    let m = c.args.memory.now.map in
    let page = c.in-Some.page in
    let from = c.loop-page.from in
    let hi = c.args.r.now.hi in
    let next = next-some m from page (sym c.in-Some.ensures) in
    record {
      few = omega (arith, next.low, was.few);
      left =
          let skip = count-skip m from page hi next.low (λ j a b. next.least j a b) in
          let x = there-is m page next.there in
          let here = count-here m page hi x.0 x.1 (omega arith) in
          let left = was.left in
          omega (arith, skip, here, left);
    }

pub returns-then-page-r : goal.returns-then-page-r
returns-then-page-r c =
    let m = c.args.memory.now.map in
    let page = c.in-Some.page in
    let from = c.loop-page.from in
    let hi = c.args.r.now.hi in
    let next = next-some m from page (sym c.in-Some.ensures) in
    let none = none-counted m (range from hi) (λ j i. let w = from-there from hi j i in next.least j w.0 (let v = w.1 in omega arith)) in
    let left = c.loop-page.invariant.left in
    omega (arith, none, left)

pub returns-in_default : goal.returns-in_default
returns-in_default c =
    let m = c.args.memory.now.map in
    let from = c.loop-page.from in
    let hi = c.args.r.now.hi in
    let gone = next-none m from (sym c.next.ensures ∙ no-some c.next.result c.in_default.not-Some) in
    let none = none-counted m (range from hi) (λ j i. let w = from-there from hi j i in gone j w.0) in
    let left = c.loop-page.invariant.left in
    omega (arith, none, left)

pub overflow_add-count : goal.overflow_add-count
overflow_add-count c =
    let next = next-some c.args.memory.now.map c.loop-page.from c.in-Some.page (sym c.in-Some.ensures) in
    omega (arith, next.low, c.loop-page.invariant.few)
