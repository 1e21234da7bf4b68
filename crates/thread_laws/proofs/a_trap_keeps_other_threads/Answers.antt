use Rattle.thread_laws.proofs.a_trap_keeps_other_threads.Goals as goal
use Rattle.thread_laws.proofs.Laws.{none-next, trap-keeps}

pub returns-clause-others : goal.returns-clause-others
returns-clause-others c = λ pair t u known allowed n m. (trap-keeps pair t known allowed).others u n m

pub returns-clause-own : goal.returns-clause-own
returns-clause-own c = λ pair t known allowed. (trap-keeps pair t known allowed).own

pub returns-clause-unmade : goal.returns-clause-unmade
returns-clause-unmade c = λ pair known. none-next pair known

pub returns-clause-made : goal.returns-clause-made
returns-clause-made c = λ pair t q known allowed e. (trap-keeps pair t known allowed).made q e
