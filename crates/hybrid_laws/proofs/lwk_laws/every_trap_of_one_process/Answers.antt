use Rattle.hybrid_laws.proofs.lwk_laws.every_trap_of_one_process.Goals as goal
use Rattle.hybrid_laws.proofs.trap.Trap.{keeps_trap, others_trap, simulated_trap}

pub returns-clause-own : goal.returns-clause-own
returns-clause-own c = λ p workers t h allowed mine nodes rings k. keeps_trap p t h allowed mine nodes workers rings k

pub returns-clause-others : goal.returns-clause-others
returns-clause-others c = λ p q workers t h side ring allowed mine nodes other old k. others_trap p t h allowed mine nodes q side workers ring other old k

pub returns-clause-simulated : goal.returns-clause-simulated
returns-clause-simulated c = λ p workers t h tables allowed mine nodes k frames none. simulated_trap p t h allowed mine nodes workers k tables frames none
