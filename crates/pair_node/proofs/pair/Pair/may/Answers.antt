use Rattle.pair_core.specs.Shown.{pair_of}
use Rattle.pair_node.proofs.Sound.{sound-told}
use Rattle.pair_node.proofs.pair.Pair.may.Goals as goal

pub may_linux-requires : goal.may_linux-requires
may_linux-requires g c = (sound-told (pair_of g.T.PageTable.rows g.F.FileStore.files c.args.self.now.parts) c.args.self.now.sound).coherent

pub may_kernel-requires : goal.may_kernel-requires
may_kernel-requires g c = (sound-told (pair_of g.T.PageTable.rows g.F.FileStore.files c.args.self.now.parts) c.args.self.now.sound).coherent
