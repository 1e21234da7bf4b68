use Rattle.one_memory.specs.Lacking.{NoneLacks}
use Rattle.one_memory.proofs.bytes.all_have.Given as goal

abbrev pub invariant-loop-page : goal.invariant-loop-page
invariant-loop-page l = NoneLacks l.rows.map l.a l.first l.page
