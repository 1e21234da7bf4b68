use Rattle.pair_core.proofs.Begins.{room-to-fork, room-to-trap}
use Rattle.pair_core.proofs.parts.Parts.trap_or_fork.Goals as goal
use Rattle.std.proofs.Common.{sym, ◌∙◌}

pub fork-requires : goal.fork-requires
fork-requires g c =
    let x = c.args.self.now in
    record {
      ready = c.requires.ready;
      kept = c.requires.kept;
      fork = λ files. sym (c.calls_fork.ensures files) ∙ c.if-calls_fork.true;
      room = room-to-fork g.T.PageTable.rows g.T.PageTable.has_room g.F.FileStore.room g.F.FileStore.files x c.args.t c.calls_fork.result (c.calls_fork.ensures (g.F.FileStore.files x.files)) c.if-calls_fork.true c.requires.room;
    }

pub trap-requires : goal.trap-requires
trap-requires g c =
    let x = c.args.self.now in
    record {
      ready = c.requires.ready;
      kept = c.requires.kept;
      no_fork = λ files. sym (c.calls_fork.ensures files) ∙ c.if-calls_fork.false;
      room = room-to-trap g.T.PageTable.rows g.T.PageTable.has_room g.F.FileStore.room g.F.FileStore.files x c.args.t c.calls_fork.result (c.calls_fork.ensures (g.F.FileStore.files x.files)) c.if-calls_fork.false c.requires.room;
    }
