use Rattle.hybrid_laws.specs.EventKinds.{is_of_linux}
use Rattle.hybrid_model.specs.Events.{may, may_here}
use Rattle.pair_core.proofs.MayThere.{asked-kernel, asked-linux, may-there}
use Rattle.pair_core.proofs.parts.Parts.may_there.Goals as goal
use Rattle.pair_core.specs.Shown.{here_in, pair_of}

pub may_in-requires : goal.may_in-requires
unfolding pair_of
may_in-requires g c = c.requires.coherent.rings.cores

pub returns-then-may_on : goal.returns-then-may_on
returns-then-may_on g c =
    let pair = pair_of g.T.PageTable.rows g.F.FileStore.files c.args.self.now in
    let own = may_here c.args.event (here_in g.T.PageTable.rows g.F.FileStore.files c.args.self.now c.args.side.now) in
    asked-linux (is_of_linux c.args.event) own (may pair c.args.event) c.may_on.result c.if-may_on.true c.may_on.ensures
    (may-there g.T.PageTable.rows g.F.FileStore.files c.args.self.now c.args.event c.args.side.now c.requires.there)

pub returns-else-may_on : goal.returns-else-may_on
returns-else-may_on g c =
    let pair = pair_of g.T.PageTable.rows g.F.FileStore.files c.args.self.now in
    let own = may_here c.args.event (here_in g.T.PageTable.rows g.F.FileStore.files c.args.self.now c.args.side.now) in
    asked-kernel (is_of_linux c.args.event) own (may pair c.args.event) c.may_on.result c.may_in.result c.if-may_on.false c.may_on.ensures c.may_in.ensures
    (may-there g.T.PageTable.rows g.F.FileStore.files c.args.self.now c.args.event c.args.side.now c.requires.there)
