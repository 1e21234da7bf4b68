use Rattle.kernel_tables.proofs.RowsPassed.{all_passed, one_passed}
use Rattle.kernel_tables.specs.Passes.{unless_of}
use Rattle.page_map.specs.NextLaws.{next-some}
use Rattle.std.proofs.Common.{ap, arith, sym, ◌≡◌, ◌≤◌}
use Rattle.kernel_tables.proofs.passes.end_all.Goals as goal

pub pass-smaller : goal.pass-smaller
pass-smaller c =
    let next : c.end_one.new.threads.threads.next ≡ c.pass.threads.threads.next = ap (λ s. s.next) c.end_one.ensures.threads in
    let least = next-some c.pass.threads.threads.rows c.pass.from c.in-Some.t.0 (sym c.in-Some.ensures.is) in
    let low : c.pass.from ≤ c.in-Some.t.0 = least.low in
    omega (arith, c.in-Some.ensures.below, next, low)

pub pass-preserved : goal.pass-preserved
pass-preserved c = one_passed (unless_of c.args.p.0) c.args.threads.now c.pass.threads c.pass.from c.in-Some.t.0 c.pass.invariant c.end_one.new.threads (sym c.in-Some.ensures.is) c.end_one.ensures.threads c.end_one.ensures.room

pub returns-clause-threads : goal.returns-clause-threads
returns-clause-threads c =
    let rows = all_passed (unless_of c.args.p.0) c.args.threads.now c.pass.threads c.pass.from 0 c.pass.invariant (sym c.in_default.ensures.is) in
    λ i. record { next = c.pass.invariant.next i; rows = rows i }
