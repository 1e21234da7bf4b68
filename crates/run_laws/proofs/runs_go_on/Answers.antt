use Rattle.run_laws.proofs.Whole.{may-later}
use Rattle.run_laws.proofs.runs_go_on.Goals as goal

pub returns : goal.returns
returns c = λ pair coherent core t n m r k. may-later pair coherent core t n m r k
