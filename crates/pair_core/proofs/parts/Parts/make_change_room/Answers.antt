use Rattle.hybrid_model.specs.Pairs.{Here}
use Rattle.lwk_side.specs.Shown.{shown_caller}
use Rattle.mck_word.specs.Maps.{each}
use Rattle.pair_core.proofs.Facts.{kept-put}
use Rattle.pair_core.proofs.MadeRoom.{room-put, same-pair}
use Rattle.pair_core.proofs.Memory.{heap-in}
use Rattle.pair_core.proofs.parts.Parts.make_change_room.Goals as goal
use Rattle.pair_core.specs.KernelRoom.{HasCallRoom, HasChangeRoom}
use Rattle.pair_core.specs.Shown.{here_in}
use Rattle.pair_core.specs.declared.parts.Side.{Side}
use Rattle.std.proofs.Common.{ap, arith, refl}
use Rattle.std.proofs.lemmas.Result.{on_ok_weaker}
use Rattle.std.specs.Prelude.{option_map}

pub make_trap_room-requires-clause-heap : goal.make_trap_room-requires-clause-heap
make_trap_room-requires-clause-heap g c = heap-in g.T.PageTable.rows g.F.FileStore.files c.args.self.now c.requires.sound c.args.p.0

pub returns-clause-same : goal.returns-clause-same
returns-clause-same g c =
    let h : Here = here_in g.T.PageTable.rows g.F.FileStore.files c.args.self.now c.row_mut-side.result.now in
    let others = c.make_trap_room.ensures.others in
    same-pair g.T.PageTable.rows g.F.FileStore.files c.args.self.now _ c.args.p.0 c.row_mut-side.result.now _ c.row_mut-side.ensures.value refl
    (λ i. record h {
      side = record h.side {
        lwk = record {
          table = c.make_trap_room.ensures.same i;
          noted = (others i).noted;
          begun = (others i).begun;
          changing = option_map (λ x. x.0) (others i).changing;
          callers = each shown_caller (others i).callers.map;
        };
      };
    })

pub returns-clause-kept : goal.returns-clause-kept
returns-clause-kept g c = λ kept. kept-put c.args.self.now _ c.args.p.0 c.row_mut-side.result.now _ kept c.row_mut-side.ensures.value refl refl refl refl refl refl refl

pub returns-clause-room : goal.returns-clause-room
returns-clause-room g c =
    let HasRoom : Side g.row.T.Denot → Type 0 = λ v. HasChangeRoom g.T.PageTable.rows g.T.PageTable.has_room c.args.self.now c.args.p.0 c.args.t.0 v in
    on_ok_weaker c.make_trap_room.result (λ room. room-put c.args.self.now.sides.map c.args.p.0 _ HasRoom room) c.make_trap_room.ensures.room

pub returns-clause-call : goal.returns-clause-call
returns-clause-call g c = λ before.
    let HasRoom : Side g.row.T.Denot → Type 0 = λ v. HasCallRoom v in
    let own = before c.row_mut-side.result.now c.row_mut-side.ensures.value in
    let spare = ap (λ t. t.callers.spare) c.make_trap_room.ensures.others in
    let callers = own.1 in
    room-put c.args.self.now.sides.map c.args.p.0 _ HasRoom (own.0, omega (arith, spare, callers))
