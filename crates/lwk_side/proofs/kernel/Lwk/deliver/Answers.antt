use Rattle.hybrid_model.specs.Deliver.{after_deliver}
use Rattle.hybrid_model.specs.OneProcess.{ran_last}
use Rattle.kernel_model.specs.Signals.{deliver}
use Rattle.lwk_side.proofs.Viewing.{did-is}
use Rattle.lwk_side.proofs.kernel.Lwk.deliver.Goals as goal
use Rattle.lwk_side.specs.Shown.{here_of}
use Rattle.std.proofs.Common.{ap, ◌∙◌}

pub returns-clause-event : goal.returns-clause-event
unfolding after_deliver
returns-clause-event g c = λ r.
    let rows = g.T.PageTable.rows c.args.task.now.space.table in
    let t = c.args.t.0 in
    ap (λ l. here_of l rows c.args.task.now c.args.channel.now r) c.ran_last.ensures
    ∙ ap (ran_last t) (did-is c.args.self.now c.deliver.new.node c.deliver.new.mem rows c.args.task.now c.args.channel.now r (deliver t) c.deliver.ensures.did)
