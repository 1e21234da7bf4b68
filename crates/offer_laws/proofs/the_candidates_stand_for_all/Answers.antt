use Rattle.offer_laws.proofs.the_candidates_stand_for_all.Goals as goal
use Rattle.offer_laws.proofs.Over.{end-is-over, over-is-end}

pub returns-clause-over : goal.returns-clause-over
returns-clause-over c = λ pair coherent ended. end-is-over pair coherent ended

pub returns-clause-at_end : goal.returns-clause-at_end
returns-clause-at_end c = λ pair over. over-is-end pair over
