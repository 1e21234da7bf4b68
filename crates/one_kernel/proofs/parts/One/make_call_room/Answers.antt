use Rattle.one_files.specs.Seen.{seen}
use Rattle.one_kernel.proofs.MadeRoom.{not-there, of-put, same-calls}
use Rattle.one_kernel.proofs.parts.One.make_call_room.Goals as goal
use Rattle.one_kernel.specs.Parts.{one_of}
use Rattle.one_kernel.specs.declared.parts.Own.{Own}
use Rattle.mck_word.specs.Maps.{at, put}
use Rattle.std.proofs.Common.{ap, refl, sym, ◌∙◌, ◌≤◌}

pub returns-then-not-has_own-clause-room : goal.returns-then-not-has_own-clause-room
unfolding one_of
returns-then-not-has_own-clause-room c = λ w found.
    let x = c.args.self.now in
    not-there x.own.map c.process_of_thread-p.result.0 (λ (v : Own). 1 ≤ v.calls.spare) (sym c.has_own.ensures ∙ c.if-not-has_own.true) w
    (ap (at x.own.map) (c.process_of_thread-p.ensures (seen x.files)) ∙ found)

pub returns-in_err-reserve-clause-state : goal.returns-in_err-reserve-clause-state
returns-in_err-reserve-clause-state c =
    same-calls c.args.self.now _ c.process_of_thread-p.result.0 c.row_mut-own.result.now c.reserve.new.self c.row_mut-own.ensures.value c.reserve.ensures.same refl refl refl refl

pub returns-clause-state : goal.returns-clause-state
returns-clause-state c =
    same-calls c.args.self.now _ c.process_of_thread-p.result.0 c.row_mut-own.result.now c.reserve.new.self c.row_mut-own.ensures.value c.reserve.ensures.same refl refl refl refl

pub returns-clause-room : goal.returns-clause-room
unfolding one_of
returns-clause-room c = λ w found.
    let x = c.args.self.now in
    let p = c.process_of_thread-p.result.0 in
    let row : Own = record c.row_mut-own.result.now { calls = c.reserve.new.self } in
    of-put x.own.map p row (λ (v : Own). 1 ≤ v.calls.spare) c.in_ok-reserve.ensures.room w (ap (at (put x.own.map p row)) (c.process_of_thread-p.ensures (seen x.files)) ∙ found)
