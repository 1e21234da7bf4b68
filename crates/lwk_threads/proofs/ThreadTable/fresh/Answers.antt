use Rattle.std.proofs.Common.{ap, arith, subst, ◌≡◌}
use Rattle.lwk_threads.specs.Threads.{Spared, Threads, live_threads}
use Rattle.lwk_threads.proofs.ThreadTable.fresh.Goals as goal

pub returns-clause-nobody : goal.returns-clause-nobody
returns-clause-nobody g c =
    let is = ap (λ (v : Spared g.row.S.Denot). v.threads) c.self.view_is in
    subst (λ (t : Threads g.row.S.Denot). live_threads c.self.inside.next_tid t ≡ 0) is (c.self.invariant.born c.self.inside.next_tid (omega arith))
