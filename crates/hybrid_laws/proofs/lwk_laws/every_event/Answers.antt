use Rattle.hybrid_laws.proofs.lwk_laws.every_event.Goals as goal
use Rattle.hybrid_laws.proofs.every.Event.{whole_event}

pub returns : goal.returns
returns c = λ pair e coherent allowed. whole_event pair coherent e allowed
