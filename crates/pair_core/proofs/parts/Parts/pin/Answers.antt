use Rattle.pair_core.proofs.parts.Parts.pin.Goals as goal
use Rattle.hybrid_laws.proofs.pin.Pin.{may-pin}
use Rattle.hybrid_model.specs.Pairs.{Here, with_side}
use Rattle.hybrid_model.specs.declared.events.Event.TheVariants.{Pin}
use Rattle.pair_core.proofs.Facts.{finds, kept-put, worker-small}
use Rattle.pair_core.proofs.Found.{after-is, has-row}
use Rattle.pair_core.specs.Shown.{here_in}
use Rattle.std.proofs.Common.{ap, refl}
use Rattle.std.specs.Prelude.{is_some}

pub row_mut-side-requires : goal.row_mut-side-requires
row_mut-side-requires g c = has-row g.T.PageTable.rows g.F.FileStore.files c.args.self.now c.args.p.0 (Pin c.args.p c.args.w) refl c.requires.ready

pub pin-requires-clause-worker : goal.pin-requires-clause-worker
pin-requires-clause-worker g c =
    let f = finds g.T.PageTable.rows g.F.FileStore.files c.args.self.now c.args.p.0 c.row_mut-side.result.now (Pin c.args.p c.args.w) c.row_mut-side.ensures.value refl c.requires.ready in
    let h : Here = here_in g.T.PageTable.rows g.F.FileStore.files c.args.self.now c.row_mut-side.result.now in
    worker-small g.T.PageTable.rows g.F.FileStore.files c.args.self.now c.args.p.0 c.row_mut-side.result.now c.args.w f (may-pin h c.args.p c.args.w f.may).below

pub pin-requires-clause-free : goal.pin-requires-clause-free
pin-requires-clause-free g c =
    let f = finds g.T.PageTable.rows g.F.FileStore.files c.args.self.now c.args.p.0 c.row_mut-side.result.now (Pin c.args.p c.args.w) c.row_mut-side.ensures.value refl c.requires.ready in
    let h : Here = here_in g.T.PageTable.rows g.F.FileStore.files c.args.self.now c.row_mut-side.result.now in
    ap is_some (may-pin h c.args.p c.args.w f.may).no_pin

pub returns-clause-after : goal.returns-clause-after
returns-clause-after g c =
    let h : Here = here_in g.T.PageTable.rows g.F.FileStore.files c.args.self.now c.row_mut-side.result.now in
    after-is g.T.PageTable.rows g.F.FileStore.files c.args.self.now _ c.args.p.0 c.row_mut-side.result.now _ (Pin c.args.p c.args.w) c.row_mut-side.ensures.value refl refl
    (λ i. with_side h (record h.side { linux = c.pin.ensures i }))

pub returns-clause-kept : goal.returns-clause-kept
returns-clause-kept g c = kept-put c.args.self.now _ c.args.p.0 c.row_mut-side.result.now _ c.requires.kept c.row_mut-side.ensures.value refl refl refl refl refl refl refl
