use Rattle.hybrid_laws.proofs.whole.every_legal_journal.Goals as goal
use Rattle.hybrid_laws.proofs.boot.Coherent.{begins}
use Rattle.hybrid_laws.proofs.every.Lwk.{each-lwk}
use Rattle.hybrid_laws.proofs.journal.Journal.{each-event, headline}

pub returns : goal.returns
returns c = λ job imgs journal prepared legal. headline (each-event each-lwk) job imgs journal (begins job imgs prepared legal.0) legal
