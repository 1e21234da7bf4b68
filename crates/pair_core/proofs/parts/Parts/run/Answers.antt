use Rattle.hybrid_model.specs.Run.{executed_in_run}
use Rattle.hybrid_model.specs.Pairs.{here}
use Rattle.hybrid_model.specs.declared.events.Event.TheVariants.{Run}
use Rattle.pair_core.proofs.Found.{after-is, has-row, here-is, may-here}
use Rattle.pair_core.proofs.KernelFacts.{MayRun, kept-after, lives-any, may-run-is, process-is, sound-table, wired}
use Rattle.pair_core.proofs.parts.Parts.run.Goals as goal
use Rattle.pair_core.specs.Shown.{here_in, pair_of, rest_of}
use Rattle.std.proofs.Common.{ap, arith, refl, sym, ◌∙◌}

pub row_mut-side-requires : goal.row_mut-side-requires
row_mut-side-requires g c =
    let x = c.args.self.now in
    has-row g.T.PageTable.rows g.F.FileStore.files x c.process_of_thread-p.result.0 (Run c.args.core c.args.t c.args.most)
    (process-is g.T.PageTable.rows g.F.FileStore.files x c.args.t.0 c.process_of_thread-p.result.0 c.process_of_thread-p.ensures) c.requires.ready

pub run-requires : goal.run-requires
run-requires g c =
    let x = c.args.self.now in
    let p = c.process_of_thread-p.result.0 in
    let s = c.row_mut-side.result.now in
    let process = process-is g.T.PageTable.rows g.F.FileStore.files x c.args.t.0 p c.process_of_thread-p.ensures in
    let there = c.row_mut-side.ensures.value in
    let may : MayRun c.args.t.0 c.args.most (here_in g.T.PageTable.rows g.F.FileStore.files x s) = may-run-is c.args.core c.args.t.0 c.args.most (here_in g.T.PageTable.rows g.F.FileStore.files x s)
    (may-here g.T.PageTable.rows g.F.FileStore.files x p s (Run c.args.core c.args.t c.args.most) there process c.requires.ready) in
    let within = may.within in
    let left = c.left_of_limit-left.ensures.is (g.F.FileStore.files x.files) in
    let fits = c.left_of_limit-left.ensures.fits in
    record {
      sound = sound-table g.T.PageTable.rows g.F.FileStore.files x p s there c.requires.ready.sound.coherent c.requires.kept;
      wired = wired g.T.PageTable.rows g.F.FileStore.files x p s there c.requires.ready.sound;
      lives = λ files. lives-any x.lwk.node c.args.t.0 (g.F.FileStore.files x.files) files may.lives;
      some = may.some;
      limit = omega (arith, within, left, fits);
    }

pub returns-clause-after : goal.returns-clause-after
returns-clause-after g c =
    let x = c.args.self.now in
    let p = c.process_of_thread-p.result.0 in
    let s = c.row_mut-side.result.now in
    let process = process-is g.T.PageTable.rows g.F.FileStore.files x c.args.t.0 p c.process_of_thread-p.ensures in
    after-is g.T.PageTable.rows g.F.FileStore.files x _ p s s (Run c.args.core c.args.t c.args.most) c.row_mut-side.ensures.value refl process
    (c.run.ensures.event (rest_of g.T.PageTable.rows g.F.FileStore.files x s))

pub returns-clause-executed : goal.returns-clause-executed
returns-clause-executed g c =
    let x = c.args.self.now in
    let rows = g.T.PageTable.rows in
    let files = g.F.FileStore.files in
    let p = c.process_of_thread-p.result.0 in
    let s = c.row_mut-side.result.now in
    let process = process-is rows files x c.args.t.0 p c.process_of_thread-p.ensures in
    c.run.ensures.executed (rest_of rows files x s)
    ∙ ap (executed_in_run c.args.t.0 c.args.most) (sym (here-is rows files x p s c.row_mut-side.ensures.value))
    ∙ ap (λ q. executed_in_run c.args.t.0 c.args.most (here (pair_of rows files x) q)) (sym process)

pub returns-clause-kept : goal.returns-clause-kept
returns-clause-kept g c =
    let x = c.args.self.now in
    let p = c.process_of_thread-p.result.0 in
    let s = c.row_mut-side.result.now in
    kept-after g.T.PageTable.rows g.F.FileStore.files x _ p s s (Run c.args.core c.args.t c.args.most) c.requires.kept c.row_mut-side.ensures.value refl refl (returns-clause-after g c)
    c.run.ensures.frames.pages c.run.ensures.frames.pool refl refl
