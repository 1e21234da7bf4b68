use Rattle.pair_core.proofs.parts.Parts.make_turn_room.Goals as goal
use Rattle.pair_core.specs.Shown.{pair_of}

pub returns-clause-same : goal.returns-clause-same
unfolding pair_of
returns-clause-same g c = λ i. record (pair_of g.T.PageTable.rows g.F.FileStore.files c.args.self.now) { turns = c.reserve.ensures.same i }
