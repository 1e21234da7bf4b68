use Rattle.hybrid_laws.proofs.lwk_laws.every_reap.Goals as goal
use Rattle.hybrid_laws.proofs.reap.Whole.{coherent_reap, simulated_pair_reap}

pub returns : goal.returns
returns c = λ pair q coherent allowed. (coherent_reap pair coherent q allowed, simulated_pair_reap pair coherent q allowed)
