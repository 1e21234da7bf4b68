use Rattle.kernel_tables.specs.Shown.{node_of}
use Rattle.pair_core.proofs.parts.Parts.make_share_room.Goals as goal
use Rattle.pair_core.specs.Shown.{pair_of}

pub returns-clause-same : goal.returns-clause-same
unfolding pair_of
returns-clause-same g c = λ i. record (pair_of g.T.PageTable.rows g.F.FileStore.files c.args.self.now) { node = node_of c.args.self.now.lwk.node (c.make_share.ensures.same i) }
