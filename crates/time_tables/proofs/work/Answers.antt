use Rattle.std.proofs.Common.{◌+◌, ◌^◌}
use Rattle.time_tables.proofs.Steps.{none-absent}
use Rattle.time_tables.proofs.work.Goals as goal

pub map_pages-requires-clause-absent : goal.map_pages-requires-clause-absent
map_pages-requires-clause-absent g c = none-absent (g.T.PageTable.rows c.in_ok-table.table) (2 ^ 20) (2 ^ 20 + c.min-count.result) c.in_ok-table.ensures

pub map_rounds-requires-clause-absent : goal.map_rounds-requires-clause-absent
map_rounds-requires-clause-absent g c = none-absent (g.T.PageTable.rows c.in_ok-table.table) (2 ^ 20) (2 ^ 20 + c.min-count.result) c.in_ok-table.ensures
