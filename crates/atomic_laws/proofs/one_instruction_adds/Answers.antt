use Rattle.atomic_laws.proofs.one_instruction_adds.Goals as goal
use Rattle.atomic_laws.proofs.Adding.{counts, instr-adds}

pub returns-clause-adds : goal.returns-clause-adds
returns-clause-adds c = λ a r m is whole only. instr-adds a is m whole r only

pub returns-clause-counts : goal.returns-clause-counts
returns-clause-counts c = λ a r m i is amoadd. counts a r m i is amoadd
