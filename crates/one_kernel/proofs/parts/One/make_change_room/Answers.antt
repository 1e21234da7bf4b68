use Rattle.one_kernel.proofs.After.{process-is}
use Rattle.one_kernel.proofs.ChangeRooms.{break-is, none-due, on-ok, room-made, same-state}
use Rattle.one_kernel.proofs.parts.One.make_change_room.Goals as goal
use Rattle.one_kernel.specs.Parts.{shown_own}
use Rattle.one_kernel.specs.declared.parts.Own.{Own}
use Rattle.std.proofs.Common.{refl, sym, ◌∙◌}

pub due_change-requires-clause-own : goal.due_change-requires-clause-own
due_change-requires-clause-own c = process-is c.args.self.now c.args.t.0 c.process_of_thread-p.result.0 c.process_of_thread-p.ensures

pub returns-in_default-clause-room : goal.returns-in_default-clause-room
returns-in_default-clause-room c =
    let x = c.args.self.now in
    let p = c.process_of_thread-p.result.0 in
    none-due x x c.args.t.0 p (process-is x c.args.t.0 p c.process_of_thread-p.ensures) (λ w there. sym c.in_default.is ∙ c.due_change.ensures.due w there)

pub returns-clause-state : goal.returns-clause-state
returns-clause-state c =
    let x = c.args.self.now in
    let w : Own = c.row_mut-own.result.now in
    let same = c.make_room_for.ensures.same in
    same-state x _ c.process_of_thread-p.result.0 w (record w { memory = c.make_room_for.new.memory }) c.row_mut-own.ensures.value refl (λ i. record { memory = same i; calls = (shown_own w).calls }) refl refl refl

pub returns-clause-room : goal.returns-clause-room
returns-clause-room c =
    let x = c.args.self.now in
    let p = c.process_of_thread-p.result.0 in
    let w : Own = c.row_mut-own.result.now in
    let o : Own = record w { memory = c.make_room_for.new.memory } in
    let there = c.row_mut-own.ensures.value in
    let same = c.make_room_for.ensures.same in
    on-ok c.make_room_for.result (room-made x _ c.args.t.0 p (process-is x c.args.t.0 p c.process_of_thread-p.ensures) w o c.in-Some.change c.program_break-brk.result refl
    (same-state x _ p w o there refl (λ i. record { memory = same i; calls = (shown_own w).calls }) refl refl refl) refl same
    (sym c.in-Some.is ∙ c.due_change.ensures.due w there) (break-is x p c.program_break-brk.result c.program_break-brk.ensures)) c.make_room_for.ensures.room
