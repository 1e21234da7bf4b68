use Rattle.pair_core.specs.Shown.{pair_of}
use Rattle.pair_node.proofs.Sound.{sound-told}
use Rattle.pair_node.proofs.pair.Pair.step_of.Goals as goal

pub step_of_intake-requires : goal.step_of_intake-requires
step_of_intake-requires g c = sound-told (pair_of g.T.PageTable.rows g.F.FileStore.files c.args.self.now.parts) c.args.self.now.sound
