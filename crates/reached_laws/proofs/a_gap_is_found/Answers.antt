use Rattle.reached_laws.proofs.a_gap_is_found.Goals as goal
use Rattle.reached_laws.proofs.Gaps.{gap-found}

pub returns : goal.returns
returns c = λ m n few. gap-found m n few
