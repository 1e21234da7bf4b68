use Rattle.hybrid_model.specs.Pairs.{Here}
use Rattle.lwk_side.specs.Shown.{shown_caller}
use Rattle.mck_word.specs.Maps.{each}
use Rattle.pair_core.proofs.Facts.{kept-put}
use Rattle.pair_core.proofs.MadeRoom.{room-put, same-pair}
use Rattle.pair_core.proofs.Memory.{fits-in, heap-in, if-ack, no-ack}
use Rattle.pair_core.proofs.parts.Parts.make_intake_room.Goals as goal
use Rattle.pair_core.specs.KernelRoom.{HasRoundRoom}
use Rattle.pair_core.specs.Shown.{here_in}
use Rattle.pair_core.specs.declared.parts.Side.{Side}
use Rattle.std.proofs.Common.{refl, sym, ◌∙◌}
use Rattle.std.proofs.lemmas.Result.{on_ok_weaker}
use Rattle.std.specs.Prelude.{option_map}

pub make_ack_room-requires-clause-heap : goal.make_ack_room-requires-clause-heap
make_ack_room-requires-clause-heap g c = heap-in g.T.PageTable.rows g.F.FileStore.files c.args.self.now c.requires c.args.p.0

pub make_ack_room-requires-clause-fits : goal.make_ack_room-requires-clause-fits
make_ack_room-requires-clause-fits g c = fits-in g.T.PageTable.rows g.F.FileStore.files c.args.self.now c.requires

pub returns-clause-same : goal.returns-clause-same
returns-clause-same g c =
    let h : Here = here_in g.T.PageTable.rows g.F.FileStore.files c.args.self.now c.row_mut-side.result.now in
    let others = c.make_ack_room.ensures.others in
    same-pair g.T.PageTable.rows g.F.FileStore.files c.args.self.now _ c.args.p.0 c.row_mut-side.result.now _ c.row_mut-side.ensures.value refl
    (λ i. record h {
      side = record h.side {
        lwk = record {
          table = c.make_ack_room.ensures.same i;
          noted = (others i).noted;
          begun = (others i).begun;
          changing = option_map (λ x. x.0) (others i).changing;
          callers = each shown_caller (others i).callers.map;
        };
      };
    })

pub returns-clause-kept : goal.returns-clause-kept
returns-clause-kept g c = λ kept. kept-put c.args.self.now _ c.args.p.0 c.row_mut-side.result.now _ kept c.row_mut-side.ensures.value refl refl refl refl refl refl refl

pub returns-clause-room : goal.returns-clause-room
returns-clause-room g c =
    let HasRoom : Side g.row.T.Denot → Type 0 = λ v. HasRoundRoom g.T.PageTable.rows g.T.PageTable.has_room c.args.self.now c.args.p.0 v in
    on_ok_weaker c.make_ack_room.result
    (λ room. room-put c.args.self.now.sides.map c.args.p.0 _ HasRoom (if-ack _ c.row_mut-side.result.now.channel.to_lwk.items room))
    c.make_ack_room.ensures.room

pub returns-then-not-starts_with_ack-clause-same : goal.returns-then-not-starts_with_ack-clause-same
returns-then-not-starts_with_ack-clause-same g c =
    same-pair g.T.PageTable.rows g.F.FileStore.files c.args.self.now _ c.args.p.0 c.row_mut-side.result.now _ c.row_mut-side.ensures.value refl refl

pub returns-then-not-starts_with_ack-clause-kept : goal.returns-then-not-starts_with_ack-clause-kept
returns-then-not-starts_with_ack-clause-kept g c = λ kept. kept-put c.args.self.now _ c.args.p.0 c.row_mut-side.result.now _ kept c.row_mut-side.ensures.value refl refl refl refl refl refl refl

pub returns-then-not-starts_with_ack-clause-room : goal.returns-then-not-starts_with_ack-clause-room
returns-then-not-starts_with_ack-clause-room g c =
    let HasRoom : Side g.row.T.Denot → Type 0 = λ v. HasRoundRoom g.T.PageTable.rows g.T.PageTable.has_room c.args.self.now c.args.p.0 v in
    let items = c.row_mut-side.result.now.channel.to_lwk.items in
    let other = sym c.starts_with_ack.ensures ∙ c.if-not-starts_with_ack.true in
    room-put c.args.self.now.sides.map c.args.p.0 _ HasRoom (no-ack _ items other)
