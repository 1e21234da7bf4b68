use Rattle.pair_core.specs.Shown.{pair_of}
use Rattle.pair_node.proofs.Sound.{sound-told}
use Rattle.pair_node.proofs.offers.PairOffers.workers.Goals as goal
use Rattle.std.proofs.Common.{refl}

pub returns-clause-value : goal.returns-clause-value
unfolding pair_of
returns-clause-value g c = refl

pub returns-clause-few : goal.returns-clause-few
unfolding pair_of
returns-clause-few g c = (sound-told (pair_of g.T.PageTable.rows g.F.FileStore.files c.args.self.now.parts) c.args.self.now.sound).small.workers
