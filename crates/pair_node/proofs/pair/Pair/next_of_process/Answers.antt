use Rattle.pair_core.specs.Shown.{pair_of}
use Rattle.pair_node.proofs.FromLists.{next-of-process, small-of-process}
use Rattle.pair_node.proofs.Sound.{sound-told}
use Rattle.pair_node.proofs.pair.Pair.next_of_process.Goals as goal

pub returns-clause-value : goal.returns-clause-value
returns-clause-value g c =
    let pair = pair_of g.T.PageTable.rows g.F.FileStore.files c.args.self.now.parts in
    next-of-process pair c.args.self.now.members c.args.self.now.listed c.args.p.0 c.args.from.0 c.next_of_process.result c.next_of_process.ensures

pub returns-clause-below : goal.returns-clause-below
returns-clause-below g c =
    let pair = pair_of g.T.PageTable.rows g.F.FileStore.files c.args.self.now.parts in
    let sound = sound-told pair c.args.self.now.sound in
    small-of-process pair c.args.self.now.members c.args.self.now.listed sound.coherent sound.small c.args.p.0 c.args.from.0 c.next_of_process.result c.next_of_process.ensures
