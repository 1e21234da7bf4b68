use Rattle.hybrid_laws.proofs.copy.Copy.{may-copy}
use Rattle.hybrid_laws.proofs.maps.Tests.{both}
use Rattle.hybrid_model.specs.Copy.{copy, copy_to}
use Rattle.hybrid_model.specs.Workers.{has_worker}
use Rattle.hybrid_model.specs.Copy.{may_copy, moved_by}
use Rattle.hybrid_model.specs.Pairs.{Here}
use Rattle.hybrid_model.specs.Sides.{no_pin}
use Rattle.hybrid_model.specs.Spaces.{frame_bytes}
use Rattle.hybrid_model.specs.declared.events.Event.TheVariants.{Copy}
use Rattle.kernel_model.specs.Nodes.{set_files}
use Rattle.kernel_tables.specs.Shown.{node_of}
use Rattle.lwk_space.proofs.BytesRead.{frame-bytes}
use Rattle.lwk_space.proofs.OnePage.{frames-set}
use Rattle.mck_word.specs.Maps.{at, put}
use Rattle.pair_core.proofs.Copied.{next-page}
use Rattle.pair_core.proofs.Facts.{finds, frame-below, kept-put}
use Rattle.pair_core.proofs.Found.{after-is, has-row}
use Rattle.pair_core.proofs.parts.Parts.copy.Goals as goal
use Rattle.pair_core.specs.Shown.{here_in}
use Rattle.page_pins.specs.declared.Pin.{Pin}
use Rattle.std.proofs.Common.{ap, arith, refl, subst, sym, ◌∙◌, ℕ}
use Rattle.std.proofs.lemmas.List.{length-set}
use Rattle.std.specs.Prelude.{List, Some, is_some, length, unwrap_or, ◌<◌, ◌≡◌}

pub row_mut-side-requires : goal.row_mut-side-requires
row_mut-side-requires g c = has-row g.T.PageTable.rows g.F.FileStore.files c.args.self.now c.args.p.0 (Copy c.args.p c.args.w) refl c.requires.ready

pub returns-in_default-clause-after : goal.returns-in_default-clause-after
returns-in_default-clause-after g c = absurd (
    let f = finds g.T.PageTable.rows g.F.FileStore.files c.args.self.now c.args.p.0 c.row_mut-side.result.now (Copy c.args.p c.args.w) c.row_mut-side.ensures.value refl c.requires.ready in
    let h : Here = here_in g.T.PageTable.rows g.F.FileStore.files c.args.self.now c.row_mut-side.result.now in
    let m = may-copy h c.args.p c.args.w f.may in
    c.in_default.not-Some m.pin (c.of.ensures ∙ ap (λ m. at m c.args.w) c.pins.ensures ∙ m.there))

pub returns-in_default-clause-kept : goal.returns-in_default-clause-kept
returns-in_default-clause-kept g c = absurd (
    let f = finds g.T.PageTable.rows g.F.FileStore.files c.args.self.now c.args.p.0 c.row_mut-side.result.now (Copy c.args.p c.args.w) c.row_mut-side.ensures.value refl c.requires.ready in
    let h : Here = here_in g.T.PageTable.rows g.F.FileStore.files c.args.self.now c.row_mut-side.result.now in
    let m = may-copy h c.args.p c.args.w f.may in
    c.in_default.not-Some m.pin (c.of.ensures ∙ ap (λ m. at m c.args.w) c.pins.ensures ∙ m.there))

pub page_mut-page-requires : goal.page_mut-page-requires
page_mut-page-requires g c =
    let f = finds g.T.PageTable.rows g.F.FileStore.files c.args.self.now c.args.p.0 c.row_mut-side.result.now (Copy c.args.p c.args.w) c.row_mut-side.ensures.value refl c.requires.ready in
    let h : Here = here_in g.T.PageTable.rows g.F.FileStore.files c.args.self.now c.row_mut-side.result.now in
    let pinned : at h.side.linux.pins c.args.w ≡ Some c.in-Some.pin = ap (λ m. at m c.args.w) (sym c.pins.ensures) ∙ sym c.of.ensures ∙ c.in-Some.is in
    let covers = f.whole.covered.pin_rows c.args.w c.in-Some.pin pinned in
    let below : c.in-Some.pin.frame.0 < length c.args.self.now.lwk.frames = subst (λ n. n < length c.args.self.now.lwk.frames) (ap (λ x. x.0) covers.frame)
    (frame-below g.T.PageTable.rows g.F.FileStore.files c.args.self.now c.args.p.0 c.row_mut-side.result.now f c.requires.kept c.in-Some.pin.page covers.row covers.there) in
    below

pub copy-requires-clause-may : goal.copy-requires-clause-may
unfolding node_of
copy-requires-clause-may g c =
    let f = finds g.T.PageTable.rows g.F.FileStore.files c.args.self.now c.args.p.0 c.row_mut-side.result.now (Copy c.args.p c.args.w) c.row_mut-side.ensures.value refl c.requires.ready in
    let h : Here = here_in g.T.PageTable.rows g.F.FileStore.files c.args.self.now c.row_mut-side.result.now in
    (both (has_worker h c.args.w) (may_copy h.side.linux h.side.book h.node.files c.args.w) f.may).1

pub copy-requires-clause-low : goal.copy-requires-clause-low
copy-requires-clause-low g c =
    let f = finds g.T.PageTable.rows g.F.FileStore.files c.args.self.now c.args.p.0 c.row_mut-side.result.now (Copy c.args.p c.args.w) c.row_mut-side.ensures.value refl c.requires.ready in
    let h : Here = here_in g.T.PageTable.rows g.F.FileStore.files c.args.self.now c.row_mut-side.result.now in
    let pinned : at h.side.linux.pins c.args.w ≡ Some c.in-Some.pin = ap (λ m. at m c.args.w) (sym c.pins.ensures) ∙ sym c.of.ensures ∙ c.in-Some.is in
    let covers = f.whole.covered.pin_rows c.args.w c.in-Some.pin pinned in
    let low = c.get-row.ensures.below (ap is_some (c.get-row.ensures.row ∙ ap (λ t. at (g.T.PageTable.rows t) c.in-Some.pin.page) c.table.ensures ∙ covers.there)) in
    let page = next-page c.args.p.0 h _ f.whole c.args.p c.args.w f.may c.in-Some.pin pinned in
    omega (arith, low, page)

pub returns-clause-after : goal.returns-clause-after
unfolding copy node_of
returns-clause-after g c =
    let f = finds g.T.PageTable.rows g.F.FileStore.files c.args.self.now c.args.p.0 c.row_mut-side.result.now (Copy c.args.p c.args.w) c.row_mut-side.ensures.value refl c.requires.ready in
    let h : Here = here_in g.T.PageTable.rows g.F.FileStore.files c.args.self.now c.row_mut-side.result.now in
    let pinned : at h.side.linux.pins c.args.w ≡ Some c.in-Some.pin = ap (λ m. at m c.args.w) (sym c.pins.ensures) ∙ sym c.of.ensures ∙ c.in-Some.is in
    let covers = f.whole.covered.pin_rows c.args.w c.in-Some.pin pinned in
    let below : c.in-Some.pin.frame.0 < length c.args.self.now.lwk.frames = subst (λ n. n < length c.args.self.now.lwk.frames) (ap (λ x. x.0) covers.frame)
    (frame-below g.T.PageTable.rows g.F.FileStore.files c.args.self.now c.args.p.0 c.row_mut-side.result.now f c.requires.kept c.in-Some.pin.page covers.row covers.there) in
    let bytes : frame_bytes h.frames c.in-Some.pin.frame.0 ≡ c.page_mut-page.result.now = frame-bytes c.args.self.now.lwk.frames c.in-Some.pin.frame.0 below ∙ sym c.page_mut-page.ensures.page in
    let copied_by : List ℕ → Here = λ bs. copy_to c.args.p.0 c.args.w c.in-Some.pin.frame.0 (moved_by c.args.p.0 h.side.linux h.node.files c.args.w bs) h in
    let copied_at : Pin → Here = λ x. copy_to c.args.p.0 c.args.w x.frame.0 (moved_by c.args.p.0 h.side.linux h.node.files c.args.w (frame_bytes h.frames x.frame.0)) h in
    after-is g.T.PageTable.rows g.F.FileStore.files c.args.self.now _ c.args.p.0 c.row_mut-side.result.now _ (Copy c.args.p c.args.w) c.row_mut-side.ensures.value refl refl
    ((λ i. record h {
      side = record h.side { linux = c.copy.ensures.linux i; book = c.copy.ensures.book i };
      node = set_files (c.copy.ensures.files i) h.node;
      turns = c.give_up_turn.ensures i;
      frames = (frames-set c.args.self.now.lwk.frames c.in-Some.pin.frame.0 c.copy.new.page below ∙ ap (λ bs. put h.frames c.in-Some.pin.frame.0 bs) c.copy.ensures.page) i;
    }) ∙ ap copied_by (sym bytes) ∙ ap copied_at (sym (ap (λ o. unwrap_or o no_pin) pinned)))

pub returns-clause-kept : goal.returns-clause-kept
returns-clause-kept g c = kept-put c.args.self.now _ c.args.p.0 c.row_mut-side.result.now _ c.requires.kept c.row_mut-side.ensures.value refl refl refl refl (length-set c.args.self.now.lwk.frames c.in-Some.pin.frame.0 c.copy.new.page) refl refl
