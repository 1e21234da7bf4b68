use Rattle.hybrid_laws.proofs.every_call_step.Goals as goal
use Rattle.hybrid_laws.proofs.calls.Laws.{carries-file-step, carries-piece}

pub returns-clause-file_step : goal.returns-clause-file_step
returns-clause-file_step c = λ p files process under held. carries-file-step p files process under held

pub returns-clause-piece : goal.returns-clause-piece
returns-clause-piece c = λ p files process page under held. carries-piece p files process under held page
