use Rattle.run_laws.proofs.Whole.{length-length, run-run}
use Rattle.run_laws.proofs.runs_join.Goals as goal

pub returns-clause-leads : goal.returns-clause-leads
returns-clause-leads c = λ pair coherent core t n m r k. run-run pair coherent core t n m r k

pub returns-clause-executed : goal.returns-clause-executed
returns-clause-executed c = λ pair coherent core t n m r k. length-length pair coherent core t n m r k
