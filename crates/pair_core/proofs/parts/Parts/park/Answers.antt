use Rattle.pair_core.proofs.parts.Parts.park.Goals as goal
use Rattle.hybrid_laws.proofs.park.Park.{may-park}
use Rattle.hybrid_model.specs.Park.{park_here}
use Rattle.hybrid_model.specs.Pairs.{Here}
use Rattle.hybrid_model.specs.declared.events.Event.TheVariants.{Park}
use Rattle.kernel_model.specs.Nodes.{set_files}
use Rattle.kernel_tables.specs.Shown.{node_of}
use Rattle.pair_core.proofs.Facts.{finds, kept-put}
use Rattle.pair_core.proofs.Found.{after-is, has-row}
use Rattle.pair_core.proofs.Linux.{held-holds}
use Rattle.pair_core.specs.Shown.{here_in}
use Rattle.std.proofs.Common.{refl}

pub row_mut-side-requires : goal.row_mut-side-requires
row_mut-side-requires g c = has-row g.T.PageTable.rows g.F.FileStore.files c.args.self.now c.args.p.0 (Park c.args.p c.args.w) refl c.requires.ready

pub park-requires : goal.park-requires
park-requires g c =
    let f = finds g.T.PageTable.rows g.F.FileStore.files c.args.self.now c.args.p.0 c.row_mut-side.result.now (Park c.args.p c.args.w) c.row_mut-side.ensures.value refl c.requires.ready in
    let h : Here = here_in g.T.PageTable.rows g.F.FileStore.files c.args.self.now c.row_mut-side.result.now in
    held-holds h.side.linux h.side.book c.args.w (may-park h c.args.p c.args.w f.may).request

pub returns-clause-after : goal.returns-clause-after
unfolding park_here node_of
returns-clause-after g c =
    let h : Here = here_in g.T.PageTable.rows g.F.FileStore.files c.args.self.now c.row_mut-side.result.now in
    after-is g.T.PageTable.rows g.F.FileStore.files c.args.self.now _ c.args.p.0 c.row_mut-side.result.now _ (Park c.args.p c.args.w) c.row_mut-side.ensures.value refl refl
    (λ i. record h {
      side = record h.side { linux = c.park.ensures.linux i; book = c.park.ensures.book i };
      node = set_files (c.park.ensures.files i) h.node;
      turns = c.give_up_turn.ensures i;
    })

pub returns-clause-kept : goal.returns-clause-kept
returns-clause-kept g c = kept-put c.args.self.now _ c.args.p.0 c.row_mut-side.result.now _ c.requires.kept c.row_mut-side.ensures.value refl refl refl refl refl refl refl
