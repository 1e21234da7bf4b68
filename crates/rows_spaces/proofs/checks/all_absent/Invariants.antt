use Rattle.lwk_space.specs.Rows.{AbsentIn}
use Rattle.rows_spaces.proofs.checks.all_absent.Given as goal

-- so far
abbrev pub invariant-loop-page : goal.invariant-loop-page
invariant-loop-page g l = AbsentIn (g.T.PageTable.rows l.table) (record { lo = l.r.lo; hi = l.page })
