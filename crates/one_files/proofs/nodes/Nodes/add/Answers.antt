use Rattle.std.proofs.Common.{ap, arith}
use Rattle.mck_word.specs.Maps.{count}
use Rattle.one_files.proofs.Counts.{count-put}
use Rattle.one_files.proofs.nodes.Nodes.add.Goals as goal

pub invariant_of-self : goal.invariant_of-self
invariant_of-self c =
    let most = count-put c.self.inside.rows.map c.self.inside.next c.args.node in
    let same = ap count c.put.ensures.row in
    let room = ap (λ t. t.spare) c.self.view_is in
    (omega arith, omega arith)
