use Rattle.std.proofs.Common.{ap, ◌∙◌, w32, arith}
use Rattle.std.proofs.lemmas.Int.{to_z-of_z}
use Rattle.isa_model.specs.Decode.{low_of}
use Rattle.rv_code.proofs.Facts.{fits-s}
use Rattle.rv_code.proofs.writing.word_s.Goals as goal

pub low-v-requires-clause-fits : goal.low-v-requires-clause-fits
low-v-requires-clause-fits c = rw (to_z-of_z w32 c.args.imm c.ranges.imm) (fits-s c.args.op c.args.rs1 c.args.rs2 c.args.imm c.requires).z-in

pub join-requires-clause-rs1_fits : goal.join-requires-clause-rs1_fits
join-requires-clause-rs1_fits c = (fits-s c.args.op c.args.rs1 c.args.rs2 c.args.imm c.requires).a-in

pub join-requires-clause-above_fits : goal.join-requires-clause-above_fits
join-requires-clause-above_fits c =
    let e = c.low-v.ensures ∙ ap (low_of 12) (to_z-of_z w32 c.args.imm c.ranges.imm) in
    let facts = fits-s c.args.op c.args.rs1 c.args.rs2 c.args.imm c.requires in
    omega arith
