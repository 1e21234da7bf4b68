use Rattle.pair_core.specs.Shown.{pair_of}
use Rattle.pair_node.proofs.Sound.{sound-told}
use Rattle.pair_node.proofs.pair.Pair.may_there.Goals as goal

pub may_there-requires-clause-coherent : goal.may_there-requires-clause-coherent
may_there-requires-clause-coherent g c = (sound-told (pair_of g.T.PageTable.rows g.F.FileStore.files c.args.self.now.parts) c.args.self.now.sound).coherent
