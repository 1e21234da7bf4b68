use Rattle.call_progress.specs.Streams.{HasRoomForPiece}
use Rattle.kernel_tables.specs.Shown.{node_of}
use Rattle.one_files.specs.Seen.{can_write_of, room_of, seen}
use Rattle.one_kernel.proofs.MadeRoom.{no-call, of-call, same-row, same-state}
use Rattle.one_kernel.proofs.parts.One.make_piece_room.Goals as goal
use Rattle.one_kernel.specs.Parts.{one_of, status_by}
use Rattle.one_kernel.specs.declared.calls.Call.{Call}
use Rattle.std.proofs.Common.{None, refl, sym, ◌∙◌}
use Rattle.std.proofs.lemmas.Result.{on_ok_weaker}

pub returns-then-not-has_call_in-clause-room : goal.returns-then-not-has_call_in-clause-room
unfolding one_of
returns-then-not-has_call_in-clause-room c =
    let x = c.args.self.now in
    let HasRoom : Call → Type 0 = λ k. HasRoomForPiece (room_of x.files) (can_write_of x.files) (seen x.files) k.progress in
    no-call x.own.map c.args.t.0 c.process_of_thread-p.result.0 _ HasRoom (sym (c.process_of_thread-p.ensures (seen x.files))) (sym c.has_call_in.ensures ∙ c.if-not-has_call_in.true)

pub returns-clause-state : goal.returns-clause-state
returns-clause-state c =
    let x = c.args.self.now in
    let w = c.row_mut-own.result.now in
    let call = c.row_mut-call.result.now in
    let made = c.make_room_for_piece in
    let row = same-row w c.args.t.0 call (record call { progress = made.new.self }) c.row_mut-call.ensures.value (λ i. record { marked = call.marked; status = status_by call.standing (made.ensures.same i) }) in
    same-state x _ c.process_of_thread-p.result.0 w _ c.row_mut-own.ensures.value refl (λ i. record { own = row i; node = node_of x.node (made.ensures.files i); free = x.free; born = None })

pub returns-clause-room : goal.returns-clause-room
unfolding one_of
returns-clause-room c =
    let x = c.args.self.now in
    let call = c.row_mut-call.result.now in
    let made = c.make_room_for_piece in
    let files = made.new.files in
    let HasRoom : Call → Type 0 = λ k. HasRoomForPiece (room_of files) (can_write_of files) (seen files) k.progress in
    on_ok_weaker made.result (λ room. of-call x.own.map c.args.t.0 c.process_of_thread-p.result.0 _ c.row_mut-own.result.now (record call { progress = made.new.self }) HasRoom (sym (c.process_of_thread-p.ensures (seen files))) room) made.ensures.room
