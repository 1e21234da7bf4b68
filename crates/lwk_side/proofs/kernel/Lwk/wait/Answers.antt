use Rattle.kernel_model.specs.Traps.{waited}
use Rattle.lwk_side.proofs.Viewing.{did-is}
use Rattle.lwk_side.proofs.kernel.Lwk.wait.Goals as goal

pub returns-clause-event : goal.returns-clause-event
returns-clause-event g c = λ channel r.
    did-is c.args.self.now c.waited.new.node c.waited.new.mem (g.T.PageTable.rows c.args.task.now.space.table) c.args.task.now channel r (waited c.args.t.0) c.waited.ensures.did
