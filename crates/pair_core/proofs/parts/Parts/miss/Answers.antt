use Rattle.pair_core.proofs.parts.Parts.miss.Goals as goal
use Rattle.hybrid_laws.proofs.miss.Miss.{may-miss}
use Rattle.hybrid_model.specs.Miss.{miss}
use Rattle.hybrid_model.specs.Pairs.{Here, with_side}
use Rattle.hybrid_model.specs.declared.events.Event.TheVariants.{Miss}
use Rattle.kernel_tables.specs.Shown.{node_of}
use Rattle.pair_core.proofs.Facts.{finds, has-place, kept-put}
use Rattle.pair_core.proofs.Found.{after-is, has-row}
use Rattle.pair_core.proofs.Linux.{held-holds}
use Rattle.pair_core.specs.Shown.{here_in}
use Rattle.std.proofs.Common.{ap, refl, ◌∙◌}
use Rattle.std.specs.Prelude.{[], ◌++◌, ◌∷◌}

pub row_mut-side-requires : goal.row_mut-side-requires
row_mut-side-requires g c = has-row g.T.PageTable.rows g.F.FileStore.files c.args.self.now c.args.p.0 (Miss c.args.p c.args.w) refl c.requires.ready

pub miss-fault-requires : goal.miss-fault-requires
miss-fault-requires g c =
    let f = finds g.T.PageTable.rows g.F.FileStore.files c.args.self.now c.args.p.0 c.row_mut-side.result.now (Miss c.args.p c.args.w) c.row_mut-side.ensures.value refl c.requires.ready in
    let h : Here = here_in g.T.PageTable.rows g.F.FileStore.files c.args.self.now c.row_mut-side.result.now in
    held-holds h.side.linux h.side.book c.args.w (may-miss h c.args.p c.args.w f.may).request

pub post-requires : goal.post-requires
post-requires g c =
    let f = finds g.T.PageTable.rows g.F.FileStore.files c.args.self.now c.args.p.0 c.row_mut-side.result.now (Miss c.args.p c.args.w) c.row_mut-side.ensures.value refl c.requires.ready in
    let h : Here = here_in g.T.PageTable.rows g.F.FileStore.files c.args.self.now c.row_mut-side.result.now in
    has-place g.T.PageTable.rows g.F.FileStore.files c.args.self.now c.args.p.0 c.row_mut-side.result.now f c.requires.kept

pub returns-clause-after : goal.returns-clause-after
unfolding miss node_of
returns-clause-after g c =
    let h : Here = here_in g.T.PageTable.rows g.F.FileStore.files c.args.self.now c.row_mut-side.result.now in
    after-is g.T.PageTable.rows g.F.FileStore.files c.args.self.now _ c.args.p.0 c.row_mut-side.result.now _ (Miss c.args.p c.args.w) c.row_mut-side.ensures.value refl refl
    (λ i. with_side (record h { turns = c.give_up_turn.ensures i }) (record h.side {
      book = c.miss-fault.ensures.book i;
      to_lwk = (ap (λ r. r.items) c.post.ensures ∙ ap (λ m. h.side.to_lwk ++ m ∷ []) c.miss-fault.ensures.message) i;
    }))

pub returns-clause-kept : goal.returns-clause-kept
returns-clause-kept g c = kept-put c.args.self.now _ c.args.p.0 c.row_mut-side.result.now _ c.requires.kept c.row_mut-side.ensures.value refl refl refl refl refl refl (ap (λ r. r.capacity) c.post.ensures)
