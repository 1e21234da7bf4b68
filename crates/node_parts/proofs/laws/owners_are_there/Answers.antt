use Rattle.node_parts.proofs.Mixing.{begins-owned, boot-owned, cpu-owned, create-owned, mem-owned, released-owned}
use Rattle.node_parts.proofs.Mixing.{turned-owned}
use Rattle.node_parts.proofs.laws.owners_are_there.Goals as goal

pub returns-clause-begins : goal.returns-clause-begins
returns-clause-begins c = begins-owned

pub returns-clause-create : goal.returns-clause-create
returns-clause-create c = create-owned

pub returns-clause-cpu : goal.returns-clause-cpu
returns-clause-cpu c = cpu-owned

pub returns-clause-mem : goal.returns-clause-mem
returns-clause-mem c = mem-owned

pub returns-clause-boot : goal.returns-clause-boot
returns-clause-boot c = boot-owned

pub returns-clause-turned : goal.returns-clause-turned
returns-clause-turned c = turned-owned

pub returns-clause-released : goal.returns-clause-released
returns-clause-released c = released-owned
