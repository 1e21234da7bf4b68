use Rattle.pair_core.proofs.Begins.{forks-still, room-for-fork, room-for-trap}
use Rattle.pair_core.proofs.parts.Parts.make_trap_or_fork_room.Goals as goal
use Rattle.std.proofs.lemmas.Result.{on_ok_weaker}

pub returns-then-calls_fork-clause-room : goal.returns-then-calls_fork-clause-room
returns-then-calls_fork-clause-room g c =
    let rows = g.T.PageTable.rows in
    let files = g.F.FileStore.files in
    let x = c.args.self.now in
    let y = c.make_fork_room.new.self in
    on_ok_weaker c.make_fork_room.result (λ h. room-for-fork rows g.T.PageTable.has_room g.F.FileStore.room files y c.args.t c.calls_fork.result
    (forks-still rows files x y c.args.t c.calls_fork.result c.make_fork_room.ensures.same (c.calls_fork.ensures (files x.files))) c.if-calls_fork.true (h (files y.files))) c.make_fork_room.ensures.room

pub returns-else-calls_fork-clause-room : goal.returns-else-calls_fork-clause-room
returns-else-calls_fork-clause-room g c =
    let rows = g.T.PageTable.rows in
    let files = g.F.FileStore.files in
    let x = c.args.self.now in
    let y = c.make_kernel_room.new.self in
    on_ok_weaker c.make_kernel_room.result (λ h. room-for-trap rows g.T.PageTable.has_room g.F.FileStore.room files y c.args.t c.calls_fork.result
    (forks-still rows files x y c.args.t c.calls_fork.result c.make_kernel_room.ensures.same (c.calls_fork.ensures (files x.files))) c.if-calls_fork.false h) c.make_kernel_room.ensures.room
