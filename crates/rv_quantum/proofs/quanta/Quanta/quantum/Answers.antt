use Rattle.rv_quantum.proofs.Totals.{total-few}
use Rattle.std.proofs.Common.{arith, ◌<◌}
use Rattle.rv_quantum.proofs.quanta.Quanta.quantum.Goals as goal

pub returns-then-count-gt0-clause-all : goal.returns-then-count-gt0-clause-all
returns-then-count-gt0-clause-all g c = λ on few room.
    let s = c.args.self.now in
    let most = total-few s.counts.items s.counted in
    let total = s.total in
    let done : s.batch.done < 4096 = omega (arith, few, most, total) in
    c.quantum-count.ensures.all on done room

pub returns-else-count-gt0-clause-all : goal.returns-else-count-gt0-clause-all
returns-else-count-gt0-clause-all g c = λ on few room.
    let s = c.args.self.now in
    let most = total-few s.counts.items s.counted in
    let total = s.total in
    let done : s.batch.done < 4096 = omega (arith, few, most, total) in
    c.quantum-count.ensures.all on done room
