use Rattle.work_laws.proofs.every_event.Goals as goal
use Rattle.work_laws.proofs.journal.Allowance.{lessens-always}
use Rattle.work_laws.proofs.journal.EachLessens.{event-lessens}

pub returns-clause-lessens : goal.returns-clause-lessens
returns-clause-lessens c = λ most pair e coherent whole workers few allowed. event-lessens most pair coherent whole workers few e allowed

pub returns-clause-always : goal.returns-clause-always
returns-clause-always c = λ most job imgs journal e prepared legal few allowed. lessens-always most job imgs journal e prepared legal few allowed
