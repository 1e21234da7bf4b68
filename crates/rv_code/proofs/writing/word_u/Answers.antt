use Rattle.std.proofs.Common.{ap, arith}
use Rattle.rv_code.proofs.Facts.{fits-u, row-fits}
use Rattle.rv_code.proofs.writing.word_u.Goals as goal

pub overflow_mul-result-2 : goal.overflow_mul-result-2
overflow_mul-result-2 c =
    let facts = fits-u c.args.op c.args.rd c.args.imm c.requires in
    omega arith

pub overflow_add-result-2 : goal.overflow_add-result-2
overflow_add-result-2 c =
    let facts = fits-u c.args.op c.args.rd c.args.imm c.requires in
    let row = row-fits c.args.op in
    let opcode = ap (λ r. r.opcode) c.row_at-row.ensures in
    omega arith
