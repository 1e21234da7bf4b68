use Rattle.hybrid_model.specs.declared.events.Event.TheVariants.{Wait}
use Rattle.pair_core.proofs.Found.{after-is, has-row}
use Rattle.pair_core.proofs.KernelFacts.{kept-after, process-is, sound-table}
use Rattle.pair_core.proofs.parts.Parts.wait.Goals as goal
use Rattle.pair_core.specs.Shown.{rest_of}
use Rattle.std.proofs.Common.{refl}

pub row_mut-side-requires : goal.row_mut-side-requires
row_mut-side-requires g c =
    let x = c.args.self.now in
    has-row g.T.PageTable.rows g.F.FileStore.files x c.process_of_thread-p.result.0 (Wait c.args.t)
    (process-is g.T.PageTable.rows g.F.FileStore.files x c.args.t.0 c.process_of_thread-p.result.0 c.process_of_thread-p.ensures) c.requires.ready

pub wait-requires : goal.wait-requires
wait-requires g c =
    let x = c.args.self.now in
    record { sound = sound-table g.T.PageTable.rows g.F.FileStore.files x c.process_of_thread-p.result.0 c.row_mut-side.result.now c.row_mut-side.ensures.value c.requires.ready.sound.coherent c.requires.kept }

pub returns-clause-after : goal.returns-clause-after
returns-clause-after g c =
    let x = c.args.self.now in
    let p = c.process_of_thread-p.result.0 in
    let s = c.row_mut-side.result.now in
    after-is g.T.PageTable.rows g.F.FileStore.files x _ p s s (Wait c.args.t) c.row_mut-side.ensures.value refl
    (process-is g.T.PageTable.rows g.F.FileStore.files x c.args.t.0 p c.process_of_thread-p.ensures)
    (c.wait.ensures.event s.channel (rest_of g.T.PageTable.rows g.F.FileStore.files x s))

pub returns-clause-kept : goal.returns-clause-kept
returns-clause-kept g c =
    let s = c.row_mut-side.result.now in
    kept-after g.T.PageTable.rows g.F.FileStore.files c.args.self.now _ c.process_of_thread-p.result.0 s s (Wait c.args.t) c.requires.kept c.row_mut-side.ensures.value refl refl (returns-clause-after g c)
    c.wait.ensures.frames.pages c.wait.ensures.frames.pool refl refl
