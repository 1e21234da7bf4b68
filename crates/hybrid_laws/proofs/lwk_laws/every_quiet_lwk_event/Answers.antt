use Rattle.hybrid_laws.proofs.lwk_laws.every_quiet_lwk_event.Goals as goal
use Rattle.hybrid_laws.proofs.every.QuietLwk.{holds_quiet_lwk}

pub returns : goal.returns
returns c = λ pair e coherent quiet allowed. holds_quiet_lwk pair coherent e quiet allowed
