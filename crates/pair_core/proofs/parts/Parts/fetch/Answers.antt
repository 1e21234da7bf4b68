use Rattle.hybrid_model.specs.Fetch.{fetch_from}
use Rattle.hybrid_model.specs.Pairs.{Here, with_side}
use Rattle.hybrid_model.specs.Rings.{head_of, rest_of, ring, with_ring}
use Rattle.hybrid_model.specs.declared.events.Event.TheVariants.{Fetch}
use Rattle.ikc_ring.specs.declared.Msg.{Msg}
use Rattle.pair_core.proofs.Facts.{finds, kept-put}
use Rattle.pair_core.proofs.Fetched.{fetch-fits, first-some, no-first}
use Rattle.pair_core.proofs.Found.{after-is, has-row}
use Rattle.pair_core.proofs.parts.Parts.fetch.Goals as goal
use Rattle.pair_core.specs.LinuxRoom.{HasFetchRoom}
use Rattle.pair_core.specs.Shown.{here_in}
use Rattle.std.proofs.Common.{ap, refl, subst, sym, ◌∙◌}
use Rattle.std.specs.Prelude.{List, ◌<◌, ◌^◌, ◌∷◌, ◌≡◌}

pub row_mut-side-requires : goal.row_mut-side-requires
row_mut-side-requires g c = has-row g.T.PageTable.rows g.F.FileStore.files c.args.self.now c.args.p.0 (Fetch c.args.p c.args.r) refl c.requires.ready

pub returns-in_default-clause-after : goal.returns-in_default-clause-after
returns-in_default-clause-after g c = absurd (
    let f = finds g.T.PageTable.rows g.F.FileStore.files c.args.self.now c.args.p.0 c.row_mut-side.result.now (Fetch c.args.p c.args.r) c.row_mut-side.ensures.value refl c.requires.ready in
    let h : Here = here_in g.T.PageTable.rows g.F.FileStore.files c.args.self.now c.row_mut-side.result.now in
    no-first (ring c.args.r h.side.to_linux) c.take.result c.in_default.not-Some c.take.ensures.value f.may)

pub returns-in_default-clause-kept : goal.returns-in_default-clause-kept
returns-in_default-clause-kept g c = absurd (
    let f = finds g.T.PageTable.rows g.F.FileStore.files c.args.self.now c.args.p.0 c.row_mut-side.result.now (Fetch c.args.p c.args.r) c.row_mut-side.ensures.value refl c.requires.ready in
    let h : Here = here_in g.T.PageTable.rows g.F.FileStore.files c.args.self.now c.row_mut-side.result.now in
    no-first (ring c.args.r h.side.to_linux) c.take.result c.in_default.not-Some c.take.ensures.value f.may)

pub fetch-requires : goal.fetch-requires
fetch-requires g c =
    let f = finds g.T.PageTable.rows g.F.FileStore.files c.args.self.now c.args.p.0 c.row_mut-side.result.now (Fetch c.args.p c.args.r) c.row_mut-side.ensures.value refl c.requires.ready in
    let h : Here = here_in g.T.PageTable.rows g.F.FileStore.files c.args.self.now c.row_mut-side.result.now in
    let first = first-some (ring c.args.r h.side.to_linux) c.in-Some.m (sym c.take.ensures.value ∙ c.in-Some.is) in
    let few : c.row_mut-side.result.now.task.begun < 2 ^ 64 = subst (λ n. n < 2 ^ 64) c.rounds_begun-begun.ensures c.rounds_begun-begun.type_inv in
    fetch-fits c.args.p.0 c.row_mut-side.result.now.proxy h.side h.node h.workers _ f.whole few c.args.r c.in-Some.m first.0 first.1
    (subst (λ o. HasFetchRoom o c.row_mut-side.result.now.proxy) (ap head_of first.1) (c.requires.room c.row_mut-side.result.now c.row_mut-side.ensures.value))

pub returns-clause-after : goal.returns-clause-after
returns-clause-after g c =
    let h : Here = here_in g.T.PageTable.rows g.F.FileStore.files c.args.self.now c.row_mut-side.result.now in
    after-is g.T.PageTable.rows g.F.FileStore.files c.args.self.now _ c.args.p.0 c.row_mut-side.result.now _ (Fetch c.args.p c.args.r) c.row_mut-side.ensures.value refl refl
    (let first = first-some (ring c.args.r h.side.to_linux) c.in-Some.m (sym c.take.ensures.value ∙ c.in-Some.is) in
    let whole : ring c.args.r h.side.to_linux ≡ c.in-Some.m ∷ first.0 = first.1 in
    (λ i. with_side h (record h.side {
      linux = (c.fetch.ensures i).linux;
      book = (c.fetch.ensures i).book;
      round = (c.fetch.ensures i).round;
      to_linux = (ap (λ l. l.messages) c.take.ensures.rest ∙ ap (λ (xs : List Msg). with_ring c.args.r (rest_of xs) h.side.to_linux) whole) i;
    })) ∙ ap (λ (xs : List Msg). fetch_from c.args.r xs h) (sym whole))

pub returns-clause-kept : goal.returns-clause-kept
returns-clause-kept g c = kept-put c.args.self.now _ c.args.p.0 c.row_mut-side.result.now _ c.requires.kept c.row_mut-side.ensures.value refl refl refl refl refl (ap (λ l. l.capacity) c.take.ensures.rest) refl
