use Rattle.hybrid_laws.proofs.whole.every_journal_follows.Goals as goal
use Rattle.hybrid_laws.proofs.every.Lwk.{each-lwk}
use Rattle.hybrid_laws.proofs.journal.Journal.{each-event, follows}

pub returns : goal.returns
returns c = λ journal pair coherent lasting legal. follows (each-event each-lwk) journal pair coherent lasting legal
