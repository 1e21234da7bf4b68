use Rattle.std.specs.Prelude.{◌+◌, ◌^◌}
use Rattle.time_tables.proofs.unmap_pages.Given as goal
use Rattle.time_tables.specs.Ranges.{AbsentFrom, ThereFrom}

abbrev pub invariant-loop-page : goal.invariant-loop-page
invariant-loop-page g l = record {
  absent : AbsentFrom (g.T.PageTable.rows l.table) (2 ^ 20) l.page;
  there : ThereFrom (g.T.PageTable.rows l.table) l.page (2 ^ 20 + l.count);
}
