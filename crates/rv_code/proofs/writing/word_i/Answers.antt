use Rattle.std.proofs.Common.{ap, ◌∙◌, w32}
use Rattle.std.proofs.lemmas.Int.{to_z-of_z}
use Rattle.isa_model.specs.Decode.{low_of}
use Rattle.rv_code.proofs.Facts.{fits-i}
use Rattle.rv_code.proofs.writing.word_i.Goals as goal

pub low-requires-clause-fits : goal.low-requires-clause-fits
low-requires-clause-fits c = rw (to_z-of_z w32 c.args.imm c.ranges.imm) (fits-i c.args.op c.args.rd c.args.rs1 c.args.imm c.requires).z-in

pub above_rs1-above-requires-clause-n_fits : goal.above_rs1-above-requires-clause-n_fits
above_rs1-above-requires-clause-n_fits c =
    let e = c.low.ensures ∙ ap (low_of 12) (to_z-of_z w32 c.args.imm c.ranges.imm) in
    rw e (fits-i c.args.op c.args.rd c.args.rs1 c.args.imm c.requires).low-in

pub join-requires-clause-rd_fits : goal.join-requires-clause-rd_fits
join-requires-clause-rd_fits c = (fits-i c.args.op c.args.rd c.args.rs1 c.args.imm c.requires).rd-in

pub join-requires-clause-rs1_fits : goal.join-requires-clause-rs1_fits
join-requires-clause-rs1_fits c = (fits-i c.args.op c.args.rd c.args.rs1 c.args.imm c.requires).a-in

pub join-requires-clause-above_fits : goal.join-requires-clause-above_fits
join-requires-clause-above_fits c =
    let e = c.low.ensures ∙ ap (low_of 12) (to_z-of_z w32 c.args.imm c.ranges.imm) in
    rw (c.above_rs1-above.ensures, c.row_at-row.ensures, e) (fits-i c.args.op c.args.rd c.args.rs1 c.args.imm c.requires).above-in
