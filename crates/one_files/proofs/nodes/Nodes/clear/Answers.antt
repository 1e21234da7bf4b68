use Rattle.std.proofs.Common.{arith}
use Rattle.one_files.proofs.Counts.{count-there}
use Rattle.one_files.proofs.nodes.Nodes.clear.Goals as goal

pub invariant_of-self : goal.invariant_of-self
invariant_of-self c = let same = count-there c.self.inside.rows.map c.args.n c.clear.new.self _ c.row_mut.ensures.value in (omega arith, omega arith)
