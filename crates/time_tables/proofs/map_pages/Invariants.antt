use Rattle.std.specs.Prelude.{[], ◌+◌, ◌^◌, ◌∷◌}
use Rattle.time_tables.proofs.map_pages.Given as goal
use Rattle.time_tables.specs.Ranges.{AbsentFrom, ThereFrom}

abbrev pub invariant-loop-page : goal.invariant-loop-page
invariant-loop-page g l = record {
  room : g.T.PageTable.has_room l.table (record { lo = 2 ^ 20; hi = 2 ^ 20 + l.count } ∷ []);
  absent : AbsentFrom (g.T.PageTable.rows l.table) l.page (2 ^ 20 + l.count);
  there : ThereFrom (g.T.PageTable.rows l.table) (2 ^ 20) l.page;
}
