use Rattle.run_laws.proofs.Many.{counts-are-one}
use Rattle.run_laws.proofs.counted_runs_are_one.Goals as goal

pub returns-clause-legal : goal.returns-clause-legal
returns-clause-legal c = λ pair coherent core t counts m some are l whole. (counts-are-one core t counts pair coherent m some are l whole).0

pub returns-clause-leads : goal.returns-clause-leads
returns-clause-leads c = λ pair coherent core t counts m some are l whole. (counts-are-one core t counts pair coherent m some are l whole).1
