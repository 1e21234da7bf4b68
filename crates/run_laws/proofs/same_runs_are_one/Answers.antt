use Rattle.run_laws.proofs.Many.{are-one}
use Rattle.run_laws.proofs.same_runs_are_one.Goals as goal

pub returns : goal.returns
returns c = λ pair coherent core t n m some l. are-one core t n pair coherent m some l
