use Rattle.lwk_changes.proofs.Making.{no-rows-in}
use Rattle.lwk_changes.proofs.changes.raise_heap.Goals as goal

pub map-requires-clause-absent : goal.map-requires-clause-absent
map-requires-clause-absent g c = no-rows-in (g.T.PageTable.rows c.args.own.now.table) c.args.mem.now c.args.r.now c.requires.rises.absent
