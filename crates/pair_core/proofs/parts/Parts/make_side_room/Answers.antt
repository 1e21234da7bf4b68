use Rattle.mck_word.specs.Maps.{each}
use Rattle.pair_core.proofs.parts.Parts.make_side_room.Goals as goal
use Rattle.pair_core.specs.Shown.{pair_of, shown_side}

pub returns-in_err-reserve-clause-same : goal.returns-in_err-reserve-clause-same
unfolding pair_of
returns-in_err-reserve-clause-same g c = λ i. record (pair_of g.T.PageTable.rows g.F.FileStore.files c.args.self.now) { sides = each (shown_side g.T.PageTable.rows) (c.reserve.ensures.same i) }

pub returns-clause-same : goal.returns-clause-same
unfolding pair_of
returns-clause-same g c = λ i. record (pair_of g.T.PageTable.rows g.F.FileStore.files c.args.self.now) { sides = each (shown_side g.T.PageTable.rows) (c.reserve.ensures.same i) }
