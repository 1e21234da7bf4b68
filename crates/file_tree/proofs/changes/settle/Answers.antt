use Rattle.std.proofs.Common.{ap, arith, refl, sym}
use Rattle.file_tree.proofs.TreeKeeps.{bytes-cut, bytes-most, index-along, index-settled}
use Rattle.file_tree.specs.Trees.{bytes_in}
use Rattle.file_tree.proofs.changes.settle.Goals as goal

pub overflow_sub-bytes : goal.overflow_sub-bytes
overflow_sub-bytes c = let most = bytes-most c.args.nodes.now.map c.args.n in let is = c.requires in let len = c.len_of.ensures.len in omega arith

pub returns-clause-bytes : goal.returns-clause-bytes
returns-clause-bytes c =
    let left = bytes-cut c.args.nodes.now.map c.args.n in
    let now = ap bytes_in c.remove.ensures.map in
    let is = c.requires in
    let len = c.len_of.ensures.len in
    omega arith

pub returns-clause-index : goal.returns-clause-index
returns-clause-index c = λ rows h. index-along _ _ _ _ rows rows c.remove.ensures.map c.remove.ensures.keys refl (index-settled c.args.nodes.now.map c.args.nodes.now.keys rows c.args.holds.now.counts c.args.n (sym c.if-is_used.ensures) h)
