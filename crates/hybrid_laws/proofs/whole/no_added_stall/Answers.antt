use Rattle.hybrid_laws.proofs.whole.no_added_stall.Goals as goal
use Rattle.hybrid_laws.proofs.journal.NoStall.{no-stall}

pub returns : goal.returns
returns c = λ pair coherent lasting. no-stall pair coherent lasting
