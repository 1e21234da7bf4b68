use Rattle.pair_core.proofs.parts.Parts.unpin.Goals as goal
use Rattle.hybrid_laws.proofs.maps.Tests.{both}
use Rattle.hybrid_model.specs.Workers.{has_worker}
use Rattle.hybrid_model.specs.Unpin.{may_unpin}
use Rattle.hybrid_model.specs.Workers.{has_pin}
use Rattle.hybrid_model.specs.Pairs.{Here, with_side}
use Rattle.hybrid_model.specs.declared.events.Event.TheVariants.{Unpin}
use Rattle.pair_core.proofs.Facts.{finds, kept-put}
use Rattle.pair_core.proofs.Found.{after-is, has-row}
use Rattle.pair_core.specs.Shown.{here_in}
use Rattle.std.proofs.Common.{refl}

pub row_mut-side-requires : goal.row_mut-side-requires
row_mut-side-requires g c = has-row g.T.PageTable.rows g.F.FileStore.files c.args.self.now c.args.p.0 (Unpin c.args.p c.args.w) refl c.requires.ready

pub unpin-requires : goal.unpin-requires
unpin-requires g c =
    let f = finds g.T.PageTable.rows g.F.FileStore.files c.args.self.now c.args.p.0 c.row_mut-side.result.now (Unpin c.args.p c.args.w) c.row_mut-side.ensures.value refl c.requires.ready in
    let h : Here = here_in g.T.PageTable.rows g.F.FileStore.files c.args.self.now c.row_mut-side.result.now in
    (both (has_pin h.side.linux c.args.w) _ (both (has_worker h c.args.w) (may_unpin h.side.linux h.side.book h.node.files c.args.w) f.may).1).0

pub returns-clause-after : goal.returns-clause-after
returns-clause-after g c =
    let h : Here = here_in g.T.PageTable.rows g.F.FileStore.files c.args.self.now c.row_mut-side.result.now in
    after-is g.T.PageTable.rows g.F.FileStore.files c.args.self.now _ c.args.p.0 c.row_mut-side.result.now _ (Unpin c.args.p c.args.w) c.row_mut-side.ensures.value refl refl
    (λ i. with_side h (record h.side { linux = c.unpin.ensures i }))

pub returns-clause-kept : goal.returns-clause-kept
returns-clause-kept g c = kept-put c.args.self.now _ c.args.p.0 c.row_mut-side.result.now _ c.requires.kept c.row_mut-side.ensures.value refl refl refl refl refl refl refl
