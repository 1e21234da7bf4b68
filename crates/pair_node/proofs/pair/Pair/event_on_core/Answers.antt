use Rattle.kernel_model.specs.Nodes.{is_there, thread_of}
use Rattle.pair_core.specs.Shown.{pair_of}
use Rattle.pair_node.proofs.Offering.{there-along}
use Rattle.pair_node.proofs.pair.Pair.event_on_core.Goals as goal
use Rattle.pair_offers.proofs.Nowhere.{nothing-on-core}
use Rattle.std.proofs.Common.{sym}

pub event_there-requires : goal.event_there-requires
unfolding pair_of
event_there-requires g c =
    there-along g.T.PageTable.rows g.F.FileStore.files c.args.self.now.parts c.in-Some.side.now (thread_of (pair_of g.T.PageTable.rows g.F.FileStore.files c.args.self.now.parts).node c.args.t.0).process c.process_of_thread.result.0
    (sym (c.process_of_thread.ensures (g.F.FileStore.files c.args.self.now.parts.files))) c.in-Some.ensures

pub returns-in-None : goal.returns-in-None
unfolding pair_of
returns-in-None g c =
    sym (nothing-on-core (pair_of g.T.PageTable.rows g.F.FileStore.files c.args.self.now.parts) c.process_of_thread.result.0 c.in-None.ensures c.args.core c.args.t.0 (sym (c.process_of_thread.ensures (g.F.FileStore.files c.args.self.now.parts.files))))
