use Rattle.hybrid_laws.proofs.whole.every_boot.Goals as goal
use Rattle.hybrid_laws.proofs.boot.Coherent.{begins, boot-coherent, boots}

pub returns-clause-coherent : goal.returns-clause-coherent
returns-clause-coherent c = λ job imgs prepared enough. boot-coherent job imgs prepared enough

pub returns-clause-shows : goal.returns-clause-shows
returns-clause-shows c = λ job imgs prepared enough. boots job imgs prepared enough

pub returns-clause-lasts : goal.returns-clause-lasts
returns-clause-lasts c = λ job imgs prepared enough. (begins job imgs prepared enough).lasting
