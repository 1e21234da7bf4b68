use Rattle.hybrid_model.specs.declared.events.Event.TheVariants.{Deliver}
use Rattle.pair_core.proofs.Found.{after-is, has-row}
use Rattle.pair_core.proofs.KernelFacts.{kept-after, process-is, sound-table, wired}
use Rattle.pair_core.proofs.parts.Parts.deliver.Goals as goal
use Rattle.pair_core.specs.Shown.{rest_of}
use Rattle.std.proofs.Common.{refl}

pub row_mut-side-requires : goal.row_mut-side-requires
row_mut-side-requires g c =
    let x = c.args.self.now in
    has-row g.T.PageTable.rows g.F.FileStore.files x c.process_of_thread-p.result.0 (Deliver c.args.t)
    (process-is g.T.PageTable.rows g.F.FileStore.files x c.args.t.0 c.process_of_thread-p.result.0 c.process_of_thread-p.ensures) c.requires.ready

pub deliver-requires : goal.deliver-requires
deliver-requires g c =
    let x = c.args.self.now in
    let p = c.process_of_thread-p.result.0 in
    let s = c.row_mut-side.result.now in
    let there = c.row_mut-side.ensures.value in
    record {
      sound = sound-table g.T.PageTable.rows g.F.FileStore.files x p s there c.requires.ready.sound.coherent c.requires.kept;
      wired = wired g.T.PageTable.rows g.F.FileStore.files x p s there c.requires.ready.sound;
    }

pub returns-clause-after : goal.returns-clause-after
returns-clause-after g c =
    let x = c.args.self.now in
    let p = c.process_of_thread-p.result.0 in
    let s = c.row_mut-side.result.now in
    after-is g.T.PageTable.rows g.F.FileStore.files x _ p s s (Deliver c.args.t) c.row_mut-side.ensures.value refl
    (process-is g.T.PageTable.rows g.F.FileStore.files x c.args.t.0 p c.process_of_thread-p.ensures)
    (c.deliver.ensures.event (rest_of g.T.PageTable.rows g.F.FileStore.files x s))

pub returns-clause-kept : goal.returns-clause-kept
returns-clause-kept g c =
    let x = c.args.self.now in
    let p = c.process_of_thread-p.result.0 in
    let s = c.row_mut-side.result.now in
    kept-after g.T.PageTable.rows g.F.FileStore.files x _ p s s (Deliver c.args.t) c.requires.kept c.row_mut-side.ensures.value refl refl (returns-clause-after g c)
    c.deliver.ensures.frames.pages c.deliver.ensures.frames.pool refl refl
