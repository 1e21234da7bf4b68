use Rattle.pair_core.proofs.parts.Parts.act.Goals as goal
use Rattle.hybrid_laws.proofs.act.Act.{may-act}
use Rattle.hybrid_laws.proofs.maps.Tests.{both}
use Rattle.hybrid_model.specs.Act.{act_file}
use Rattle.hybrid_model.specs.Workers.{has_worker}
use Rattle.hybrid_model.specs.Act.{may_act}
use Rattle.hybrid_model.specs.Pairs.{Here}
use Rattle.hybrid_model.specs.declared.events.Event.TheVariants.{Act}
use Rattle.kernel_model.specs.Nodes.{set_files}
use Rattle.kernel_tables.specs.Shown.{node_of}
use Rattle.pair_core.proofs.Facts.{few-held, finds, kept-put}
use Rattle.pair_core.proofs.Found.{after-is, has-row}
use Rattle.pair_core.proofs.Linux.{held-served}
use Rattle.pair_core.specs.Shown.{here_in}
use Rattle.std.proofs.Common.{refl}

pub row_mut-side-requires : goal.row_mut-side-requires
row_mut-side-requires g c = has-row g.T.PageTable.rows g.F.FileStore.files c.args.self.now c.args.p.0 (Act c.args.p c.args.w) refl c.requires.ready

pub act-requires-clause-may : goal.act-requires-clause-may
unfolding node_of
act-requires-clause-may g c =
    let f = finds g.T.PageTable.rows g.F.FileStore.files c.args.self.now c.args.p.0 c.row_mut-side.result.now (Act c.args.p c.args.w) c.row_mut-side.ensures.value refl c.requires.ready in
    let h : Here = here_in g.T.PageTable.rows g.F.FileStore.files c.args.self.now c.row_mut-side.result.now in
    (both (has_worker h c.args.w) (may_act h.side.linux h.side.book h.node.files c.args.w) f.may).1

pub act-requires-clause-service : goal.act-requires-clause-service
act-requires-clause-service g c =
    let f = finds g.T.PageTable.rows g.F.FileStore.files c.args.self.now c.args.p.0 c.row_mut-side.result.now (Act c.args.p c.args.w) c.row_mut-side.ensures.value refl c.requires.ready in
    let h : Here = here_in g.T.PageTable.rows g.F.FileStore.files c.args.self.now c.row_mut-side.result.now in
    held-served c.args.p.0 h.side h.node h.workers _ f.whole c.args.w (may-act h c.args.p c.args.w f.may).request

pub act-requires-clause-few : goal.act-requires-clause-few
act-requires-clause-few g c =
    let f = finds g.T.PageTable.rows g.F.FileStore.files c.args.self.now c.args.p.0 c.row_mut-side.result.now (Act c.args.p c.args.w) c.row_mut-side.ensures.value refl c.requires.ready in
    let h : Here = here_in g.T.PageTable.rows g.F.FileStore.files c.args.self.now c.row_mut-side.result.now in
    few-held g.T.PageTable.rows g.F.FileStore.files c.args.self.now c.args.p.0 c.row_mut-side.result.now f

pub returns-clause-after : goal.returns-clause-after
unfolding act_file node_of
returns-clause-after g c =
    let h : Here = here_in g.T.PageTable.rows g.F.FileStore.files c.args.self.now c.row_mut-side.result.now in
    after-is g.T.PageTable.rows g.F.FileStore.files c.args.self.now _ c.args.p.0 c.row_mut-side.result.now _ (Act c.args.p c.args.w) c.row_mut-side.ensures.value refl refl
    (λ i. record h {
      side = record h.side { linux = c.act.ensures.linux i; book = c.act.ensures.book i };
      node = set_files (c.act.ensures.files i) h.node;
      turns = c.give_up_turn.ensures i;
    })

pub returns-clause-kept : goal.returns-clause-kept
returns-clause-kept g c = kept-put c.args.self.now _ c.args.p.0 c.row_mut-side.result.now _ c.requires.kept c.row_mut-side.ensures.value refl refl refl refl refl refl refl
