use Rattle.offer_laws.proofs.every_choice.Goals as goal
use Rattle.offer_laws.proofs.Walking.{end-is-no-choice, next-may}

pub returns-clause-may : goal.returns-clause-may
returns-clause-may c = λ words w chosen is. next-may words w chosen is

pub returns-clause-none : goal.returns-clause-none
returns-clause-none c = λ words w cores. end-is-no-choice words w cores
