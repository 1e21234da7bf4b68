use Rattle.hybrid_laws.proofs.every_linux_event.Goals as goal
use Rattle.hybrid_laws.proofs.every.Linux.{holds_linux}

pub returns : goal.returns
returns c = λ pair e coherent linux allowed. holds_linux pair coherent e linux allowed
