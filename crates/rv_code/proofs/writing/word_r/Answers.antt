use Rattle.rv_code.proofs.Facts.{fits-r}
use Rattle.rv_code.proofs.writing.word_r.Goals as goal

pub join-requires-clause-rd_fits : goal.join-requires-clause-rd_fits
join-requires-clause-rd_fits c = (fits-r c.args.op c.args.rd c.args.rs1 c.args.rs2 c.requires).rd-in

pub join-requires-clause-rs1_fits : goal.join-requires-clause-rs1_fits
join-requires-clause-rs1_fits c = (fits-r c.args.op c.args.rd c.args.rs1 c.args.rs2 c.requires).a-in
