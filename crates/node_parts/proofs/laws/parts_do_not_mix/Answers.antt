use Rattle.node_parts.proofs.Going.{own-turns, own-walk}
use Rattle.node_parts.proofs.Mixing.{boot-keeps, cpu-keeps, create-keeps, mem-keeps, released-keeps, turned-at}
use Rattle.node_parts.proofs.laws.parts_do_not_mix.Goals as goal

pub returns-clause-create : goal.returns-clause-create
returns-clause-create c = create-keeps

pub returns-clause-cpu : goal.returns-clause-cpu
returns-clause-cpu c = cpu-keeps

pub returns-clause-mem : goal.returns-clause-mem
returns-clause-mem c = mem-keeps

pub returns-clause-boot : goal.returns-clause-boot
returns-clause-boot c = boot-keeps

pub returns-clause-released : goal.returns-clause-released
returns-clause-released c = released-keeps

pub returns-clause-turned : goal.returns-clause-turned
returns-clause-turned c = turned-at

pub returns-clause-own_walk : goal.returns-clause-own_walk
returns-clause-own_walk c = own-walk

pub returns-clause-turns : goal.returns-clause-turns
returns-clause-turns c = own-turns
