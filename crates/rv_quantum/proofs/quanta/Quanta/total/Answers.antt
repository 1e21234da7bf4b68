use Rattle.rv_quantum.proofs.Totals.{total-few, total-some}
use Rattle.std.proofs.Common.{arith, length, subst, ◌≤◌}
use Rattle.rv_quantum.proofs.quanta.Quanta.total.Goals as goal

pub returns-clause-some : goal.returns-clause-some
returns-clause-some c =
    let s = c.args.self.now in
    let some = total-some s.counts.items s.counted in
    let total = s.total in
    omega (arith, some, total)

pub returns-clause-few : goal.returns-clause-few
returns-clause-few c =
    let s = c.args.self.now in
    let most = total-few s.counts.items s.counted in
    let total = s.total in
    let fits : length s.counts.items ≤ 64 = subst (λ ns. length ns ≤ 64) c.as_slice-counts.ensures.value c.as_slice-counts.ensures.fits in
    omega (arith, most, total, fits)
