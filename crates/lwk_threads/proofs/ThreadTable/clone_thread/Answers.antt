use Rattle.lwk_threads.proofs.Tables.{one-lives}
use Rattle.std.proofs.Common.{arith, sym, ◌<◌}
use Rattle.lwk_threads.proofs.ThreadTable.clone_thread.Goals as goal

pub enter-requires-clause-known : goal.enter-requires-clause-known
enter-requires-clause-known g c =
    let known : c.in-Some.x.now.pid.0 < c.args.self.now.threads.next = c.free_place-place.ensures.known (one-lives c.args.self.now.threads c.args.caller.0 c.in-Some.x.now (sym c.in-Some.ensures)) in
    omega (arith, known, c.fresh-tid.ensures.next)
