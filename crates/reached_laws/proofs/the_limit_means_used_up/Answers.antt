use Rattle.reached_laws.proofs.Limit.{used-up}
use Rattle.reached_laws.proofs.the_limit_means_used_up.Goals as goal

pub returns : goal.returns
returns c = λ job imgs journal prepared legal e. used-up job imgs journal prepared legal e
