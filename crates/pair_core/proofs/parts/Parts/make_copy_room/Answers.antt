use Rattle.hybrid_model.specs.Pairs.{Here}
use Rattle.kernel_model.specs.Nodes.{set_files}
use Rattle.kernel_tables.specs.Shown.{node_of}
use Rattle.pair_core.proofs.Facts.{kept-put}
use Rattle.pair_core.proofs.MadeRoom.{room-put, same-pair}
use Rattle.pair_core.proofs.parts.Parts.make_copy_room.Goals as goal
use Rattle.pair_core.specs.Shown.{here_in}
use Rattle.pair_core.specs.declared.parts.Side.{Side}
use Rattle.proxy_worker.specs.Fits.{HasCopyRoom}
use Rattle.std.proofs.Common.{refl}
use Rattle.std.proofs.lemmas.Result.{on_ok_weaker}

pub returns-clause-same : goal.returns-clause-same
unfolding node_of
returns-clause-same g c =
    let h : Here = here_in g.T.PageTable.rows g.F.FileStore.files c.args.self.now c.row_mut-side.result.now in
    same-pair g.T.PageTable.rows g.F.FileStore.files c.args.self.now _ c.args.p.0 c.row_mut-side.result.now _ c.row_mut-side.ensures.value refl
    (λ i. record h { side = record h.side { linux = c.make_room_for_copy.ensures.same i }; node = set_files (c.make_room_for_copy.ensures.files i) h.node })

pub returns-clause-kept : goal.returns-clause-kept
returns-clause-kept g c = λ kept. kept-put c.args.self.now _ c.args.p.0 c.row_mut-side.result.now _ kept c.row_mut-side.ensures.value refl refl refl refl refl refl refl

pub returns-clause-room : goal.returns-clause-room
returns-clause-room g c =
    let made = c.make_room_for_copy in
    let HasRoom : Side g.row.T.Denot → Type 0 = λ v. HasCopyRoom (g.F.FileStore.room made.new.files) (g.F.FileStore.can_write made.new.files) (g.F.FileStore.files made.new.files) v.proxy c.args.w in
    on_ok_weaker made.result (λ room. room-put c.args.self.now.sides.map c.args.p.0 _ HasRoom room) made.ensures.room
