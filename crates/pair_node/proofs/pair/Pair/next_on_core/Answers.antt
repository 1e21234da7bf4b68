use Rattle.pair_core.specs.Shown.{pair_of}
use Rattle.pair_node.proofs.FromLists.{next-on-core, small-on-core}
use Rattle.pair_node.proofs.Sound.{sound-told}
use Rattle.pair_node.proofs.pair.Pair.next_on_core.Goals as goal

pub returns-clause-value : goal.returns-clause-value
returns-clause-value g c =
    let pair = pair_of g.T.PageTable.rows g.F.FileStore.files c.args.self.now.parts in
    next-on-core pair c.args.self.now.members c.args.self.now.listed c.args.core c.args.from.0 c.next_on_core.result c.next_on_core.ensures

pub returns-clause-below : goal.returns-clause-below
returns-clause-below g c =
    let pair = pair_of g.T.PageTable.rows g.F.FileStore.files c.args.self.now.parts in
    let sound = sound-told pair c.args.self.now.sound in
    small-on-core pair c.args.self.now.members c.args.self.now.listed sound.coherent sound.small c.args.core c.args.from.0 c.next_on_core.result c.next_on_core.ensures
