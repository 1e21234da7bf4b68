use Rattle.kernel_model.specs.Nodes.{stop_in}
use Rattle.kernel_model.specs.Traps.{call_named, called, past_ecall}
use Rattle.kernel_model.specs.declared.Does.{Does}
use Rattle.lwk_side.proofs.Changing.{trap-room}
use Rattle.lwk_side.proofs.kernel.Lwk.make_trap_room.Goals as goal
use Rattle.lwk_side.specs.Changing.{HasTrappedRoom, is_ecall}
use Rattle.lwk_views.specs.Views.{seen}
use Rattle.mck_word.specs.declared.Regs.{Regs}
use Rattle.std.proofs.Common.{ap, arith, subst, ◌∙◌}
use Rattle.std.proofs.lemmas.Result.{on_ok_weaker}
use Rattle.std.specs.Prelude.{length}

pub returns-clause-room : goal.returns-clause-room
returns-clause-room g c =
    on_ok_weaker c.make_call_room.result
    (λ room. λ files.
    let lwk = c.args.self.now in
    let own = c.make_call_room.new.task.space in
    let t = c.args.t.0 in
    let free = length lwk.pool.free in
    let v = seen (g.T.PageTable.rows own.table) lwk.node lwk.frames files in
    trap-room (g.T.PageTable.has_room own.table) own.areas.spare c.args.p.0 t free v
    (λ e. subst (λ (x : Regs). HasTrappedRoom (g.T.PageTable.has_room own.table) own.areas.spare c.args.p.0 (called t free x (past_ecall t v) (call_named x))) (c.regs-regs.ensures files) (room files)))
    c.make_call_room.ensures.room

pub returns-then-not-stands_on_ecall-clause-room : goal.returns-then-not-stands_on_ecall-clause-room
returns-then-not-stands_on_ecall-clause-room g c = λ files.
    let lwk = c.args.self.now in
    let own = c.args.task.now.space in
    let v = seen (g.T.PageTable.rows own.table) lwk.node lwk.frames files in
    trap-room (g.T.PageTable.has_room own.table) own.areas.spare c.args.p.0 c.args.t.0 (length lwk.pool.free) v (λ e. absurd (
    let a = c.stands_on_ecall.ensures ∙ ap (λ (d : Does). is_ecall (stop_in d)) (c.does.ensures files) ∙ e in
    let b = c.if-not-stands_on_ecall.true in
    grind (arith, a, b)
    ))
