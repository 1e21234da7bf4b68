use Rattle.lwk_run.proofs.ThreadRuns.{run-after, run-length}
use Rattle.lwk_run.proofs.laws.a_run_is_the_nodes_run.Goals as goal

pub returns-clause-after : goal.returns-clause-after
returns-clause-after c = run-after

pub returns-clause-count : goal.returns-clause-count
returns-clause-count c = run-length
