use Rattle.hybrid_model.specs.declared.events.Event.TheVariants.{Script}
use Rattle.pair_core.proofs.Found.{after-is, has-row}
use Rattle.pair_core.proofs.KernelFacts.{kept-after, line-is}
use Rattle.pair_core.proofs.parts.Parts.script.Goals as goal
use Rattle.pair_core.specs.Shown.{rest_of}
use Rattle.std.proofs.Common.{refl}

pub row_mut-side-requires : goal.row_mut-side-requires
row_mut-side-requires g c =
    let x = c.args.self.now in
    has-row g.T.PageTable.rows g.F.FileStore.files x c.process_of_line-p.result.0 (Script c.args.k)
    (line-is g.T.PageTable.rows g.F.FileStore.files x c.args.k c.process_of_line-p.result.0 c.process_of_line-p.ensures) c.requires.ready

pub returns-clause-after : goal.returns-clause-after
returns-clause-after g c =
    let x = c.args.self.now in
    let p = c.process_of_line-p.result.0 in
    let s = c.row_mut-side.result.now in
    after-is g.T.PageTable.rows g.F.FileStore.files x _ p s s (Script c.args.k) c.row_mut-side.ensures.value refl
    (line-is g.T.PageTable.rows g.F.FileStore.files x c.args.k p c.process_of_line-p.ensures)
    (c.send_line.ensures.event (rest_of g.T.PageTable.rows g.F.FileStore.files x s))

pub returns-clause-kept : goal.returns-clause-kept
returns-clause-kept g c =
    let s = c.row_mut-side.result.now in
    kept-after g.T.PageTable.rows g.F.FileStore.files c.args.self.now _ c.process_of_line-p.result.0 s s (Script c.args.k) c.requires.kept c.row_mut-side.ensures.value refl refl (returns-clause-after g c)
    c.send_line.ensures.frames.pages c.send_line.ensures.frames.pool refl refl
