use Rattle.pair_core.specs.Shown.{pair_of}
use Rattle.pair_node.proofs.offers.PairOffers.worker_offer.Goals as goal
use Rattle.pair_offers.proofs.Nowhere.{no-worker-offer}
use Rattle.std.proofs.Common.{sym}

pub returns-in-None : goal.returns-in-None
returns-in-None g c = sym (no-worker-offer (pair_of g.T.PageTable.rows g.F.FileStore.files c.args.self.now.parts) c.args.p.0 c.in-None.ensures c.args.w)
