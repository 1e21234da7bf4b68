use Rattle.hybrid_model.specs.declared.events.Event.TheVariants.{Reap}
use Rattle.lwk_side.specs.Shown.{Rest, here_of}
use Rattle.pair_core.proofs.Found.{after-is, has-row}
use Rattle.pair_core.proofs.KernelFacts.{kept-after, sound-table}
use Rattle.pair_core.proofs.parts.Parts.reap.Goals as goal
use Rattle.pair_core.specs.Shown.{rest_of}
use Rattle.proxy_worker.specs.Shown.{turns_of}
use Rattle.std.proofs.Common.{ap, refl, ◌∙◌}

pub row_mut-side-requires : goal.row_mut-side-requires
row_mut-side-requires g c = has-row g.T.PageTable.rows g.F.FileStore.files c.args.self.now c.args.p.0 (Reap c.args.p) refl c.requires.ready

pub reap-requires : goal.reap-requires
reap-requires g c = record { sound = sound-table g.T.PageTable.rows g.F.FileStore.files c.args.self.now c.args.p.0 c.row_mut-side.result.now c.row_mut-side.ensures.value c.requires.ready.sound.coherent c.requires.kept }

pub returns-clause-after : goal.returns-clause-after
returns-clause-after g c =
    let x = c.args.self.now in
    let s = c.row_mut-side.result.now in
    after-is g.T.PageTable.rows g.F.FileStore.files x _ c.args.p.0 s _ (Reap c.args.p) c.row_mut-side.ensures.value refl refl
    (ap (λ (r : Rest). here_of c.reap.new.self (g.T.PageTable.rows c.reap.new.task.space.table) c.reap.new.task s.channel r)
    (λ j. record { linux = c.drop_mirror.ensures j; files = c.close_all.ensures j; turns = turns_of x.turns; workers = x.workers })
    ∙ c.reap.ensures.event s.channel (rest_of g.T.PageTable.rows g.F.FileStore.files x s))

pub returns-clause-kept : goal.returns-clause-kept
returns-clause-kept g c =
    kept-after g.T.PageTable.rows g.F.FileStore.files c.args.self.now _ c.args.p.0 c.row_mut-side.result.now _ (Reap c.args.p) c.requires.kept c.row_mut-side.ensures.value refl refl (returns-clause-after g c)
    c.reap.ensures.frames.pages c.reap.ensures.frames.pool refl refl
