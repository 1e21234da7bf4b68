use Rattle.work_laws.proofs.bounded_work.Goals as goal
use Rattle.work_laws.proofs.journal.Allowance.{work-allowed}

pub returns : goal.returns
returns c = λ job imgs journal prepared legal. work-allowed job imgs journal prepared legal
