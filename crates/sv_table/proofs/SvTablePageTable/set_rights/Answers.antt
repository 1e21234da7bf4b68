use Rattle.sv_table.proofs.SvTablePageTable.set_rights.Goals as goal
use Rattle.sv_table.proofs.TableRows.{found_inside, low_inside, row_changed}

pub change-requires-clause-low : goal.change-requires-clause-low
change-requires-clause-low c = low_inside c.self.inside.nodes c.args.self.now c.self.view_is c.args.page c.requires

pub change-requires-clause-there : goal.change-requires-clause-there
change-requires-clause-there c = found_inside c.self.inside.nodes c.args.self.now c.self.view_is c.args.page c.requires

pub returns-clause-row : goal.returns-clause-row
returns-clause-row c = row_changed c.self.inside.nodes c.args.self.now c.self.view_is c.args.page c.requires c.change.new.nodes c.args.r c.change.ensures.here c.change.ensures.others
