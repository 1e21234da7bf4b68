use Rattle.thread_laws.proofs.other_events_keep_threads.Goals as goal
use Rattle.thread_laws.proofs.Laws.{other-keeps}

pub returns : goal.returns
returns c = λ pair e keeps. other-keeps pair e keeps
