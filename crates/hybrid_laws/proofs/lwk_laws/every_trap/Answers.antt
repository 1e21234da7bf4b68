use Rattle.hybrid_laws.proofs.lwk_laws.every_trap.Goals as goal
use Rattle.hybrid_laws.proofs.every.Event.{whole_trap}

pub returns : goal.returns
returns c = λ pair t coherent allowed. whole_trap pair coherent t allowed
