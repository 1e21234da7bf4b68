use Rattle.quiet_laws.proofs.the_made_processes_decide.Goals as goal
use Rattle.quiet_laws.proofs.Made.{made-quiet}

pub returns : goal.returns
returns c = λ pair none. made-quiet pair none
