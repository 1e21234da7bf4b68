use Rattle.kernel_model.specs.MemoryCalls.{Decision, decide}
use Rattle.kernel_model.specs.Nodes.{process_of}
use Rattle.kernel_model.specs.Traps.{Trapped, call_named, called, past_ecall}
use Rattle.kernel_tables.specs.Shown.{node_of}
use Rattle.lwk_side.proofs.Changing.{call-room}
use Rattle.lwk_side.proofs.kernel.Lwk.make_call_room.Goals as goal
use Rattle.lwk_side.specs.Changing.{HasDecidedRoom, HasTrappedRoom, memory_call}
use Rattle.lwk_space.specs.Lacks.{memory}
use Rattle.lwk_views.specs.Views.{seen}
use Rattle.mck_word.specs.Maps.{Map}
use Rattle.hybrid_model.specs.Sides.{Row}
use Rattle.std.proofs.Common.{ap, subst, sym, ◌∙◌, ◌≡◌}
use Rattle.std.proofs.lemmas.Result.{on_ok_weaker}
use Rattle.std.specs.Prelude.{Option, Some, length}
use Rattle.system_calls.specs.declared.SystemCall.{SystemCall}
use Rattle.system_calls.specs.declared.SystemCall.TheVariants.{Memory}

pub returns-in-Memory-clause-room : goal.returns-in-Memory-clause-room
returns-in-Memory-clause-room g c =
    on_ok_weaker c.make_planned_room.result
    (λ room. λ files.
    let lwk = c.args.self.now in
    let own = c.make_planned_room.new.space in
    let rows = g.T.PageTable.rows own.table in
    let has_room = g.T.PageTable.has_room own.table in
    let t = c.args.t.0 in
    let p = c.args.p.0 in
    let regs = c.args.regs.now in
    let free = length lwk.pool.free in
    let v = seen rows lwk.node lwk.frames files in
    let x = process_of (node_of lwk.node files) p in
    let call = c.in-Memory.call in
    let args = c.arguments_of.result in
    let d = c.plans_memory_call-plan.ensures.is files ∙ ap (λ (m : Map Row). decide x (memory m lwk.frames) free call args) (sym c.make_planned_room.ensures.same) in
    let named : Some (Memory call) ≡ call_named regs = sym (ap (λ y. Some y) c.in-Memory.is) ∙ c.in-Some.ensures in
    let made = (λ i. memory_call t free call (c.arguments_of.ensures i) v) ∙ ap (λ (o : Option SystemCall). called t free regs (past_ecall t v) o) named in
    subst (λ (y : Trapped). HasTrappedRoom has_room own.areas.spare p y) made
    (call-room has_room own.areas.spare p t free call args v (c.requires.own files)
    (subst (λ (y : Decision). HasDecidedRoom has_room own.areas.spare x.program_break y) d (room files))))
    c.make_planned_room.ensures.room
