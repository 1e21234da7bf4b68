use Rattle.hybrid_model.specs.Pairs.{Here}
use Rattle.lwk_side.specs.Shown.{shown_caller}
use Rattle.mck_word.specs.Maps.{each}
use Rattle.pair_core.proofs.Facts.{kept-put}
use Rattle.pair_core.proofs.MadeRoom.{room-put, same-pair}
use Rattle.pair_core.proofs.parts.Parts.make_call_room.Goals as goal
use Rattle.pair_core.specs.KernelRoom.{HasCallRoom}
use Rattle.pair_core.specs.Shown.{here_in}
use Rattle.pair_core.specs.declared.parts.Side.{Side}
use Rattle.std.proofs.Common.{refl}
use Rattle.std.proofs.lemmas.Result.{on_ok_weaker}

pub returns-clause-same : goal.returns-clause-same
returns-clause-same g c =
    let h : Here = here_in g.T.PageTable.rows g.F.FileStore.files c.args.self.now c.row_mut-side.result.now in
    same-pair g.T.PageTable.rows g.F.FileStore.files c.args.self.now _ c.args.p.0 c.row_mut-side.result.now _ c.row_mut-side.ensures.value refl
    (λ i. record h { side = record h.side { lwk = record h.side.lwk { callers = each shown_caller (c.reserve_call.ensures.callers i) }; book = c.reserve_call.ensures.book i } })

pub returns-clause-kept : goal.returns-clause-kept
returns-clause-kept g c = λ kept. kept-put c.args.self.now _ c.args.p.0 c.row_mut-side.result.now _ kept c.row_mut-side.ensures.value refl refl refl refl refl refl refl

pub returns-clause-room : goal.returns-clause-room
returns-clause-room g c =
    let HasRoom : Side g.row.T.Denot → Type 0 = λ v. HasCallRoom v in
    on_ok_weaker c.reserve_call.result (λ room. room-put c.args.self.now.sides.map c.args.p.0 _ HasRoom room) c.reserve_call.ensures.room
