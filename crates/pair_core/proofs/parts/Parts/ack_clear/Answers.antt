use Rattle.hybrid_model.specs.AckClear.{ack_clear}
use Rattle.hybrid_model.specs.Pairs.{Here}
use Rattle.hybrid_model.specs.declared.events.Event.TheVariants.{AckClear}
use Rattle.pair_core.proofs.Facts.{finds, has-place, kept-put}
use Rattle.pair_core.proofs.Found.{after-is, has-row}
use Rattle.pair_core.proofs.parts.Parts.ack_clear.Goals as goal
use Rattle.pair_core.specs.Shown.{here_in}
use Rattle.std.proofs.Common.{ap, refl}

pub row_mut-side-requires : goal.row_mut-side-requires
row_mut-side-requires g c = has-row g.T.PageTable.rows g.F.FileStore.files c.args.self.now c.args.p.0 (AckClear c.args.p) refl c.requires.ready

pub ack_clear-requires : goal.ack_clear-requires
ack_clear-requires g c =
    let f = finds g.T.PageTable.rows g.F.FileStore.files c.args.self.now c.args.p.0 c.row_mut-side.result.now (AckClear c.args.p) c.row_mut-side.ensures.value refl c.requires.ready in
    let h : Here = here_in g.T.PageTable.rows g.F.FileStore.files c.args.self.now c.row_mut-side.result.now in
    f.may

pub post-requires : goal.post-requires
post-requires g c =
    let f = finds g.T.PageTable.rows g.F.FileStore.files c.args.self.now c.args.p.0 c.row_mut-side.result.now (AckClear c.args.p) c.row_mut-side.ensures.value refl c.requires.ready in
    let h : Here = here_in g.T.PageTable.rows g.F.FileStore.files c.args.self.now c.row_mut-side.result.now in
    has-place g.T.PageTable.rows g.F.FileStore.files c.args.self.now c.args.p.0 c.row_mut-side.result.now f c.requires.kept

pub returns-clause-after : goal.returns-clause-after
unfolding ack_clear
returns-clause-after g c =
    let h : Here = here_in g.T.PageTable.rows g.F.FileStore.files c.args.self.now c.row_mut-side.result.now in
    after-is g.T.PageTable.rows g.F.FileStore.files c.args.self.now _ c.args.p.0 c.row_mut-side.result.now _ (AckClear c.args.p) c.row_mut-side.ensures.value refl refl
    (λ i. record h { side = record h.side { round = c.ack_clear.ensures i; to_lwk = (ap (λ r. r.items) c.post.ensures) i } })

pub returns-clause-kept : goal.returns-clause-kept
returns-clause-kept g c = kept-put c.args.self.now _ c.args.p.0 c.row_mut-side.result.now _ c.requires.kept c.row_mut-side.ensures.value refl refl refl refl refl refl (ap (λ r. r.capacity) c.post.ensures)
