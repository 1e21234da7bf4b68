use Rattle.pair_node.proofs.Lists.{listed-none}
use Rattle.pair_node.proofs.members.Members.new.Goals as goal
use Rattle.key_rows.specs.Table.{Table}
use Rattle.std.proofs.Common.{ap}

pub returns : goal.returns
returns c = λ cores. listed-none cores _ (ap (λ (t : Table (Unit {0})). t.map) c.new.ensures) (ap (λ (t : Table (Unit {0})). t.map) c.new-2.ensures)
