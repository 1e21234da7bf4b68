use Rattle.mck_word.specs.declared.Access.TheVariants.{Read}
use Rattle.lwk_space.proofs.BytesRead.{first-lack, may-allowed}
use Rattle.std.proofs.Common.{length}
use Rattle.lwk_space.proofs.bytes.read.Goals as goal

pub returns-in-Ok-clause-may : goal.returns-in-Ok-clause-may
returns-in-Ok-clause-may g c = may-allowed (g.T.PageTable.rows c.args.table.now) c.args.mem.now Read c.args.address (length c.args.into.now) c.in-Ok.ensures

pub returns-in-Err-clause-lack : goal.returns-in-Err-clause-lack
returns-in-Err-clause-lack g c = first-lack (g.T.PageTable.rows c.args.table.now) c.args.mem.now Read c.args.address (length c.args.into.now) c.in-Err.lack c.in-Err.ensures
