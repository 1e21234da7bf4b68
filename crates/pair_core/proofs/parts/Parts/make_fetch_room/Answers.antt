use Rattle.hybrid_model.specs.Pairs.{Here}
use Rattle.hybrid_model.specs.Rings.{head_of, ring}
use Rattle.kernel_tables.specs.Shown.{node_of}
use Rattle.pair_core.proofs.Facts.{kept-put}
use Rattle.pair_core.proofs.MadeRoom.{room-put, same-pair}
use Rattle.pair_core.proofs.parts.Parts.make_fetch_room.Goals as goal
use Rattle.pair_core.specs.LinuxRoom.{HasFetchRoom}
use Rattle.pair_core.specs.Shown.{here_in}
use Rattle.pair_core.specs.declared.parts.Side.{Side}
use Rattle.std.proofs.Common.{refl, subst}
use Rattle.std.proofs.lemmas.Result.{on_ok_weaker}

pub returns-clause-same : goal.returns-clause-same
unfolding node_of
returns-clause-same g c =
    let h : Here = here_in g.T.PageTable.rows g.F.FileStore.files c.args.self.now c.row_mut-side.result.now in
    same-pair g.T.PageTable.rows g.F.FileStore.files c.args.self.now _ c.args.p.0 c.row_mut-side.result.now _ c.row_mut-side.ensures.value refl
    (λ i. record h { side = record h.side { linux = c.make_message_room.ensures.same i } })

pub returns-clause-kept : goal.returns-clause-kept
returns-clause-kept g c = λ kept. kept-put c.args.self.now _ c.args.p.0 c.row_mut-side.result.now _ kept c.row_mut-side.ensures.value refl refl refl refl refl refl refl

pub returns-clause-room : goal.returns-clause-room
returns-clause-room g c =
    let made = c.make_message_room in
    let HasRoom : Side g.row.T.Denot → Type 0 = λ v. HasFetchRoom (head_of (ring c.args.r v.channel.to_linux.messages)) v.proxy in
    on_ok_weaker made.result (λ room. room-put c.args.self.now.sides.map c.args.p.0 _ HasRoom (subst (λ o. HasFetchRoom o made.new.proxy) c.head.ensures room)) made.ensures.room
