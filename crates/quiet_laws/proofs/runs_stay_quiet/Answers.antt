use Rattle.quiet_laws.proofs.runs_stay_quiet.Goals as goal
use Rattle.quiet_laws.proofs.Later.{stays-quiet}

pub returns : goal.returns
returns c = λ pair core t n m ready quiet. stays-quiet pair core t n m ready quiet
