use Rattle.hybrid_laws.proofs.lwk_laws.every_answer.Goals as goal
use Rattle.hybrid_laws.proofs.answer.WholeEmpty.{coherent_answer_empty, simulated_pair_answer_empty}
use Rattle.hybrid_laws.proofs.answer.WholeRow.{coherent_answer_row, simulated_pair_answer_row}

pub returns-clause-with_row : goal.returns-clause-with_row
returns-clause-with_row c = λ pair q w row coherent allowed is. (coherent_answer_row pair coherent q w allowed row is, simulated_pair_answer_row pair coherent q w allowed row is)

pub returns-clause-empty : goal.returns-clause-empty
returns-clause-empty c = λ pair q w coherent allowed none. (coherent_answer_empty pair coherent q w allowed none, simulated_pair_answer_empty pair coherent q w allowed none)
