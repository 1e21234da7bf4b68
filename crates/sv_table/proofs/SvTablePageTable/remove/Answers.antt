use Rattle.sv_table.proofs.SvTablePageTable.remove.Goals as goal
use Rattle.sv_table.proofs.TableRows.{found_inside, frame_of, low_inside, row_gone}

pub take_out-requires-clause-low : goal.take_out-requires-clause-low
take_out-requires-clause-low c = low_inside c.self.inside.nodes c.args.self.now c.self.view_is c.args.page c.requires

pub take_out-requires-clause-there : goal.take_out-requires-clause-there
take_out-requires-clause-there c = found_inside c.self.inside.nodes c.args.self.now c.self.view_is c.args.page c.requires

pub returns-clause-frame : goal.returns-clause-frame
returns-clause-frame c = frame_of c.self.inside.nodes c.args.self.now c.self.view_is c.args.page c.requires c.take_out.result c.take_out.ensures.frame

pub returns-clause-rest : goal.returns-clause-rest
returns-clause-rest c = row_gone c.self.inside.nodes c.args.self.now c.self.view_is c.args.page c.requires c.take_out.new.nodes c.take_out.ensures.gone c.take_out.ensures.others
