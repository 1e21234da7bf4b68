use Rattle.rv64i_user.proofs.SameRuns.{runs}
use Rattle.rv64i_user.proofs.laws.seen_pages_decide_runs.Goals as goal

pub returns : goal.returns
returns c = runs
