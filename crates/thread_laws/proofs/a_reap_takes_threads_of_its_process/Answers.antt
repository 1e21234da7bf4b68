use Rattle.thread_laws.proofs.a_reap_takes_threads_of_its_process.Goals as goal
use Rattle.thread_laws.proofs.Laws.{reap-takes}

pub returns : goal.returns
returns c = λ pair p u. reap-takes pair p u
