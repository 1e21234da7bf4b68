use Rattle.std.proofs.Common.{ap, arith}
use Rattle.rv_am.specs.Words.{am}
use Rattle.rv_am.proofs.WordFields.{fields-of, order-small, row-fits}
use Rattle.isa_model.specs.Atomics.{is_atomic}
use Rattle.rv_am.proofs.writing.word.Goals as goal

pub above_rs2-requires-clause-order_fits : goal.above_rs2-requires-clause-order_fits
above_rs2-requires-clause-order_fits c =
    let i = c.args.i.now in
    order-small (is_atomic i.op) i.order (fields-of (am i.op i.rd i.rs1 i.rs2 i.order) i.coded).order

pub overflow_add-result-5 : goal.overflow_add-result-5
overflow_add-result-5 c =
    let i = c.args.i.now in
    let f = fields-of (am i.op i.rd i.rs1 i.rs2 i.order) i.coded in
    let y = row-fits i.op in
    let one = ap (λ r. r.opcode) c.row_at-row.ensures in
    let two = ap (λ r. r.funct3) c.row_at-row.ensures in
    let u = c.above_rs2.ensures.below in
    omega (arith, one, two, u, y.code, y.middle, f.rd, f.rs1, f.rs2)
