use Rattle.rv_quantum.proofs.Counts.{one-at-most, part-on}
use Rattle.std.proofs.Common.{arith}
use Rattle.rv_quantum.proofs.quanta.all_but_the_last_go_on.Goals as goal

pub returns : goal.returns
returns c = λ k n r m images q s led l.
    let count = led.count in
    let one = one-at-most s in
    part-on k n r m (omega (arith, count, one, l))
