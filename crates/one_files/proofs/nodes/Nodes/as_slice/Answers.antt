use Rattle.std.proofs.Common.{ap, arith, length}
use Rattle.one_files.proofs.Counts.{count-entries}
use Rattle.one_files.proofs.nodes.Nodes.as_slice.Goals as goal

pub returns-clause-few : goal.returns-clause-few
returns-clause-few c =
    let many = count-entries c.self.inside.rows.map in
    let same = ap length c.as_slice.ensures in
    omega arith
