use Rattle.thread_laws.proofs.every_event_keeps_cores.Goals as goal
use Rattle.thread_laws.proofs.Laws.{cores-stay}

pub returns : goal.returns
returns c = λ pair e. cores-stay pair e
