use Rattle.std.proofs.Common.{ap, ◌∙◌, w32, arith}
use Rattle.std.proofs.lemmas.Int.{to_z-of_z}
use Rattle.isa_model.specs.Decode.{low_of}
use Rattle.rv_code.proofs.Facts.{fits-j, row-fits}
use Rattle.rv_code.proofs.writing.word_j.Goals as goal

pub low-v-requires-clause-fits : goal.low-v-requires-clause-fits
low-v-requires-clause-fits c = rw (to_z-of_z w32 c.args.imm c.ranges.imm) (fits-j c.args.op c.args.rd c.args.imm c.requires).z-in

pub overflow_mul-result-5 : goal.overflow_mul-result-5
overflow_mul-result-5 c =
    let e = c.low-v.ensures ∙ ap (low_of 21) (to_z-of_z w32 c.args.imm c.ranges.imm) in
    let facts = fits-j c.args.op c.args.rd c.args.imm c.requires in
    omega arith

pub overflow_add-result-5 : goal.overflow_add-result-5
overflow_add-result-5 c =
    let e = c.low-v.ensures ∙ ap (low_of 21) (to_z-of_z w32 c.args.imm c.ranges.imm) in
    let facts = fits-j c.args.op c.args.rd c.args.imm c.requires in
    let row = row-fits c.args.op in
    let opcode = ap (λ r. r.opcode) c.row_at-row.ensures in
    omega arith
