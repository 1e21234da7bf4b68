use Rattle.lwk_changes.proofs.Making.{all-rows-in}
use Rattle.lwk_changes.proofs.changes.protect.Goals as goal

pub protect-requires-clause-present : goal.protect-requires-clause-present
protect-requires-clause-present g c = all-rows-in (g.T.PageTable.rows c.args.own.now.table) c.args.mem.now c.args.r.now c.requires.order c.requires.present
