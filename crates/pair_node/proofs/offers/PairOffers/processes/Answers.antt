use Rattle.mck_word.specs.declared.Pid.{Pid}
use Rattle.pair_core.specs.Shown.{pair_of}
use Rattle.pair_node.proofs.Shows.{few-processes}
use Rattle.pair_node.proofs.Sound.{sound-told}
use Rattle.pair_node.proofs.offers.PairOffers.processes.Goals as goal

pub returns-clause-few : goal.returns-clause-few
returns-clause-few g c =
    let pair = pair_of g.T.PageTable.rows g.F.FileStore.files c.args.self.now.parts in
    few-processes pair (sound-told pair c.args.self.now.sound).small (λ (p : Pid). p.0) c.pids.result.now c.pids.ensures
