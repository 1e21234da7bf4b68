use Rattle.std.proofs.Common.{ap, arith}
use Rattle.file_model.specs.Files.{Inode}
use Rattle.mck_word.specs.Maps.{count}
use Rattle.one_files.proofs.Counts.{count-none, count-put}
use Rattle.one_files.proofs.nodes.Nodes.new.Goals as goal

pub invariant_of-result : goal.invariant_of-result
invariant_of-result c =
    let most = count-put c.reserve.new.self.map 1 c.root.result in
    let same = ap count c.put.ensures.row in
    let before = ap count c.reserve.ensures.same in
    let first = ap (λ t. count t.map) c.new-rows.ensures in
    let none = count-none Inode in
    (omega arith, omega arith)
