use Rattle.work_laws.proofs.every_event_leaves_less.Goals as goal
use Rattle.work_laws.proofs.journal.LeftLess.{left-always, left-length, left-less}

pub returns-clause-falls : goal.returns-clause-falls
returns-clause-falls c = λ pair e coherent small whole allowed. left-less pair e coherent small whole allowed

pub returns-clause-always : goal.returns-clause-always
returns-clause-always c = λ job imgs journal e prepared legal allowed. left-always job imgs journal e prepared legal allowed

pub returns-clause-length : goal.returns-clause-length
returns-clause-length c = λ job imgs journal prepared legal. left-length job imgs journal prepared legal
