use Rattle.lwk_space.specs.Lacks.{NoneLacks}
use Rattle.lwk_space.proofs.bytes.lacking.Given as goal

abbrev pub invariant-loop-page : goal.invariant-loop-page
invariant-loop-page g l = NoneLacks (g.T.PageTable.rows l.table) l.a l.first l.page
