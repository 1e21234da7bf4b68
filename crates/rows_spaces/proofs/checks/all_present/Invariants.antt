use Rattle.lwk_space.specs.Rows.{PresentIn}
use Rattle.rows_spaces.proofs.checks.all_present.Given as goal

-- so far
abbrev pub invariant-loop-page : goal.invariant-loop-page
invariant-loop-page g l = PresentIn (g.T.PageTable.rows l.table) (record { lo = l.r.lo; hi = l.page })
