use Rattle.hybrid_laws.proofs.whole.every_lwk_event.Goals as goal
use Rattle.hybrid_laws.proofs.every.Lwk.{each-lwk}

pub returns : goal.returns
returns c = λ pair e coherent lwk allowed. each-lwk pair e coherent lwk allowed
