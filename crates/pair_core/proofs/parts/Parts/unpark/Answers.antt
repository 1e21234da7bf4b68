use Rattle.pair_core.proofs.parts.Parts.unpark.Goals as goal
use Rattle.hybrid_laws.proofs.maps.Tests.{both}
use Rattle.hybrid_model.specs.Unpark.{unpark_here}
use Rattle.hybrid_model.specs.Workers.{is_parked}
use Rattle.hybrid_model.specs.Pairs.{Here}
use Rattle.hybrid_model.specs.Sides.{state_of}
use Rattle.hybrid_model.specs.declared.events.Event.TheVariants.{Unpark}
use Rattle.kernel_tables.specs.Shown.{node_of}
use Rattle.pair_core.proofs.Facts.{finds, kept-put}
use Rattle.pair_core.proofs.Found.{after-is, has-row}
use Rattle.pair_core.specs.Shown.{here_in}
use Rattle.std.proofs.Common.{refl}

pub row_mut-side-requires : goal.row_mut-side-requires
row_mut-side-requires g c = has-row g.T.PageTable.rows g.F.FileStore.files c.args.self.now c.args.p.0 (Unpark c.args.p c.args.q) refl c.requires.ready

pub unpark-requires : goal.unpark-requires
unpark-requires g c =
    let f = finds g.T.PageTable.rows g.F.FileStore.files c.args.self.now c.args.p.0 c.row_mut-side.result.now (Unpark c.args.p c.args.q) c.row_mut-side.ensures.value refl c.requires.ready in
    let h : Here = here_in g.T.PageTable.rows g.F.FileStore.files c.args.self.now c.row_mut-side.result.now in
    (both (is_parked (state_of h.side.book c.args.q.0)) _ f.may).0

pub returns-clause-after : goal.returns-clause-after
unfolding unpark_here node_of
returns-clause-after g c =
    let h : Here = here_in g.T.PageTable.rows g.F.FileStore.files c.args.self.now c.row_mut-side.result.now in
    after-is g.T.PageTable.rows g.F.FileStore.files c.args.self.now _ c.args.p.0 c.row_mut-side.result.now _ (Unpark c.args.p c.args.q) c.row_mut-side.ensures.value refl refl
    (λ i. record h {
      side = record h.side { book = c.unpark.ensures i };
      turns = c.take_turn.ensures i;
    })

pub returns-clause-kept : goal.returns-clause-kept
returns-clause-kept g c = kept-put c.args.self.now _ c.args.p.0 c.row_mut-side.result.now _ c.requires.kept c.row_mut-side.ensures.value refl refl refl refl refl refl refl
