use Rattle.thread_laws.proofs.an_intake_keeps_other_threads.Goals as goal
use Rattle.thread_laws.proofs.Laws.{intake-keeps}

pub returns-clause-exactly : goal.returns-clause-exactly
returns-clause-exactly c = λ pair p u coherent. (intake-keeps pair p coherent).exactly u

pub returns-clause-others : goal.returns-clause-others
returns-clause-others c = λ pair p u coherent n. (intake-keeps pair p coherent).others u n
