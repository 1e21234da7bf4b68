use Rattle.hybrid_model.specs.OneProcess.{view_here}
use Rattle.hybrid_model.specs.Trap.{trapped}
use Rattle.hybrid_model.specs.Pairs.{with_node}
use Rattle.kernel_model.specs.MemoryCalls.{Decision, decide}
use Rattle.kernel_model.specs.Nodes.{Node, process_of}
use Rattle.kernel_model.specs.Traps.{Trapped, decided, past_ecall}
use Rattle.kernel_tables.specs.Shown.{node_of}
use Rattle.lwk_side.proofs.Changing.{decided-ahead, decided-room, decision_of, memory-call-by, memory-call-is}
use Rattle.lwk_side.proofs.kernel.Lwk.calls_for_memory.Goals as goal
use Rattle.lwk_side.specs.Changing.{HasDecidedRoom, HasTrappedRoom}
use Rattle.lwk_side.specs.Shown.{here_of}
use Rattle.lwk_space.specs.Lacks.{memory}
use Rattle.lwk_views.specs.Views.{seen}
use Rattle.std.proofs.Common.{ap, subst, sym, ◌∙◌, ◌≡◌}
use Rattle.std.specs.Prelude.{length}
use Rattle.vm_calls.specs.Facts.{decision}

pub does_as_planned-requires-clause-room : goal.does_as_planned-requires-clause-room
does_as_planned-requires-clause-room g c = λ files.
    let lwk = c.args.self.now in
    let own = c.args.task.now.space in
    let rows = g.T.PageTable.rows own.table in
    let has_room = g.T.PageTable.has_room own.table in
    let spare = own.areas.spare in
    let t = c.args.t.0 in
    let p = c.args.p.0 in
    let v = seen rows lwk.node lwk.frames files in
    let e = c.past_ecall.ensures.node files in
    let d : decision c.plans_memory_call-plan.result ≡ decision_of t (length lwk.pool.free) c.args.call c.args.args.now v p =
    c.plans_memory_call-plan.ensures.is files ∙ ap (λ (n : Node). decide (process_of n p) (memory rows lwk.frames) (length lwk.pool.free) c.args.call c.args.args.now) e in
    subst (λ (n : Node). HasDecidedRoom has_room spare (process_of n p).program_break (decision c.plans_memory_call-plan.result)) (sym e)
    (subst (λ (x : Decision). HasDecidedRoom has_room spare (process_of (past_ecall t v).node p).program_break x) (sym d)
    (decided-room has_room spare p t (past_ecall t v) (decision_of t (length lwk.pool.free) c.args.call c.args.args.now v p)
    (subst (λ (x : Trapped). HasTrappedRoom has_room spare p x) (sym (memory-call-by p t (length lwk.pool.free) c.args.call c.args.args.now v (c.requires.own.own files))) (c.requires.room files))))

pub does_as_planned-requires-clause-ahead : goal.does_as_planned-requires-clause-ahead
does_as_planned-requires-clause-ahead g c = λ files.
    let lwk = c.args.self.now in
    decided-ahead (process_of (node_of c.past_ecall.new.self files) c.args.p.0) (memory (g.T.PageTable.rows c.args.task.now.space.table) lwk.frames) (length lwk.pool.free) c.args.call c.args.args.now
    (decision c.plans_memory_call-plan.result) (sym (c.plans_memory_call-plan.ensures.is files))

pub returns-clause-after : goal.returns-clause-after
returns-clause-after g c = λ channel r.
    let lwk = c.args.self.now in
    let rows = g.T.PageTable.rows c.args.task.now.space.table in
    let h = here_of lwk rows c.args.task.now channel r in
    let t = c.args.t.0 in
    let p = c.args.p.0 in
    let e = c.past_ecall.ensures.node r.files in
    let d : decision c.plans_memory_call-plan.result ≡ decision_of t (length h.free) c.args.call c.args.args.now (view_here h) p =
    c.plans_memory_call-plan.ensures.is r.files ∙ ap (λ (n : Node). decide (process_of n p) (memory rows lwk.frames) (length lwk.pool.free) c.args.call c.args.args.now) e in
    c.does_as_planned.ensures.after channel r
    ∙ (λ i. trapped p t (decided t (view_here (with_node h (e i))) (d i)) (with_node h (e i)))
    ∙ memory-call-is p t c.args.call c.args.args.now h (c.requires.own.own r.files)
