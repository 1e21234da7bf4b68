use Rattle.kernel_model.specs.Signals.{on_node, raised, signal_of_stop}
use Rattle.lwk_side.proofs.Viewing.{did-is}
use Rattle.lwk_side.proofs.kernel.Lwk.raises_signal.Goals as goal

pub returns-clause-after : goal.returns-clause-after
returns-clause-after g c = λ channel r.
    let rows = g.T.PageTable.rows c.args.task.now.space.table in
    let lwk = c.args.self.now in
    did-is lwk c.raises.new.node lwk.frames rows c.args.task.now channel r (on_node (raised c.args.t.0 (signal_of_stop c.args.stop)))
    (c.raises.ensures rows lwk.frames c.requires.sound.inside)
