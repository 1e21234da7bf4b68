use Rattle.hybrid_laws.proofs.lwk_laws.every_intake.Goals as goal
use Rattle.hybrid_laws.proofs.every.QuietLwk.{coherent_intake, simulated_pair_intake}

pub returns-clause-coherent : goal.returns-clause-coherent
returns-clause-coherent c = λ pair q coherent allowed. coherent_intake pair coherent q allowed

pub returns-clause-simulated : goal.returns-clause-simulated
returns-clause-simulated c = λ pair q coherent allowed. simulated_pair_intake pair coherent q allowed
