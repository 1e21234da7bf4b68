use Rattle.pair_core.proofs.parts.Parts.assign.Goals as goal
use Rattle.hybrid_laws.proofs.assign.Assign.{may-assign}
use Rattle.hybrid_laws.proofs.maps.Tests.{both}
use Rattle.hybrid_model.specs.Workers.{has_worker, with_linux}
use Rattle.hybrid_model.specs.Assign.{may_assign}
use Rattle.hybrid_model.specs.Pairs.{Here}
use Rattle.hybrid_model.specs.declared.events.Event.TheVariants.{Assign}
use Rattle.pair_core.proofs.Facts.{finds, kept-put, worker-small}
use Rattle.pair_core.proofs.Found.{after-is, has-row}
use Rattle.pair_core.proofs.Linux.{waiting-served}
use Rattle.pair_core.specs.Shown.{here_in}
use Rattle.std.proofs.Common.{refl}

pub row_mut-side-requires : goal.row_mut-side-requires
row_mut-side-requires g c = has-row g.T.PageTable.rows g.F.FileStore.files c.args.self.now c.args.p.0 (Assign c.args.p c.args.w) refl c.requires.ready

pub assign-requires-clause-may : goal.assign-requires-clause-may
assign-requires-clause-may g c =
    let f = finds g.T.PageTable.rows g.F.FileStore.files c.args.self.now c.args.p.0 c.row_mut-side.result.now (Assign c.args.p c.args.w) c.row_mut-side.ensures.value refl c.requires.ready in
    let h : Here = here_in g.T.PageTable.rows g.F.FileStore.files c.args.self.now c.row_mut-side.result.now in
    (both (has_worker h c.args.w) (may_assign h.side.linux h.side.book c.args.w) f.may).1

pub assign-requires-clause-worker : goal.assign-requires-clause-worker
assign-requires-clause-worker g c =
    let f = finds g.T.PageTable.rows g.F.FileStore.files c.args.self.now c.args.p.0 c.row_mut-side.result.now (Assign c.args.p c.args.w) c.row_mut-side.ensures.value refl c.requires.ready in
    let h : Here = here_in g.T.PageTable.rows g.F.FileStore.files c.args.self.now c.row_mut-side.result.now in
    worker-small g.T.PageTable.rows g.F.FileStore.files c.args.self.now c.args.p.0 c.row_mut-side.result.now c.args.w f (may-assign h c.args.p c.args.w f.may).below

pub assign-requires-clause-service : goal.assign-requires-clause-service
assign-requires-clause-service g c =
    let f = finds g.T.PageTable.rows g.F.FileStore.files c.args.self.now c.args.p.0 c.row_mut-side.result.now (Assign c.args.p c.args.w) c.row_mut-side.ensures.value refl c.requires.ready in
    let h : Here = here_in g.T.PageTable.rows g.F.FileStore.files c.args.self.now c.row_mut-side.result.now in
    waiting-served c.args.p.0 h.side h.node h.workers _ f.whole (may-assign h c.args.p c.args.w f.may).waits

pub returns-clause-after : goal.returns-clause-after
returns-clause-after g c = after-is g.T.PageTable.rows g.F.FileStore.files c.args.self.now _ c.args.p.0 c.row_mut-side.result.now _ (Assign c.args.p c.args.w) c.row_mut-side.ensures.value refl refl
    (λ i. with_linux (c.assign.ensures.linux i, c.assign.ensures.book i) (here_in g.T.PageTable.rows g.F.FileStore.files c.args.self.now c.row_mut-side.result.now))

pub returns-clause-kept : goal.returns-clause-kept
returns-clause-kept g c = kept-put c.args.self.now _ c.args.p.0 c.row_mut-side.result.now _ c.requires.kept c.row_mut-side.ensures.value refl refl refl refl refl refl refl
