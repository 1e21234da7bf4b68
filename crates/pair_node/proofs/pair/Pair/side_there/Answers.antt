use Rattle.pair_core.specs.Shown.{pair_of}
use Rattle.pair_node.proofs.Sound.{sound-told}
use Rattle.pair_node.proofs.pair.Pair.side_there.Goals as goal

pub side_there-requires : goal.side_there-requires
side_there-requires g c = (sound-told (pair_of g.T.PageTable.rows g.F.FileStore.files c.args.self.now.parts) c.args.self.now.sound).coherent
