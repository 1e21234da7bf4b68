use Rattle.pair_core.specs.Shown.{pair_of}
use Rattle.pair_node.proofs.Sound.{sound-told}
use Rattle.pair_node.proofs.pair.Pair.make_room.Goals as goal

pub make_room-requires : goal.make_room-requires
make_room-requires g c = record { sound = sound-told (pair_of g.T.PageTable.rows g.F.FileStore.files c.args.self.now.parts) c.args.self.now.sound }
