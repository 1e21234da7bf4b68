use Rattle.std.specs.Prelude.{◌+◌, ◌^◌}
use Rattle.time_tables.proofs.map_rounds.Given as goal
use Rattle.time_tables.specs.Ranges.{AbsentFrom}

abbrev pub invariant-loop : goal.invariant-loop
invariant-loop g l = AbsentFrom (g.T.PageTable.rows l.table) (2 ^ 20) (2 ^ 20 + l.count)
