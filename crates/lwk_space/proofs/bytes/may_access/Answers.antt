use Rattle.lwk_space.proofs.BytesRead.{first-lack, may-allowed, not-allowed}
use Rattle.std.proofs.Common.{sym}
use Rattle.lwk_space.proofs.bytes.may_access.Goals as goal

pub returns-in-Ok : goal.returns-in-Ok
returns-in-Ok g c = λ pages. sym (may-allowed (g.T.PageTable.rows c.args.table.now) pages c.args.a c.args.address c.args.len c.in-Ok.ensures)

pub returns-in-Err : goal.returns-in-Err
returns-in-Err g c = λ pages.
    let rows = g.T.PageTable.rows c.args.table.now in
    sym (not-allowed _ c.args.a c.args.address c.args.len _ (first-lack rows pages c.args.a c.args.address c.args.len _ c.in-Err.ensures))
