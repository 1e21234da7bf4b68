use Rattle.hybrid_model.specs.OneProcess.{view_here}
use Rattle.hybrid_model.specs.Trap.{trapped}
use Rattle.kernel_model.specs.LocalCalls.{answers}
use Rattle.kernel_model.specs.Nodes.{answered, process_of, set_does}
use Rattle.kernel_model.specs.Signals.{on_node}
use Rattle.kernel_model.specs.Traps.{decided}
use Rattle.kernel_model.specs.declared.Does.TheVariants.{InVm}
use Rattle.kernel_tables.specs.Shown.{node_of}
use Rattle.lwk_side.proofs.Viewing.{did-is}
use Rattle.lwk_side.proofs.kernel.Lwk.does_as_planned.Goals as goal
use Rattle.lwk_side.specs.Changing.{HasDecidedRoom, IsAhead}
use Rattle.lwk_side.specs.Shown.{here_of}
use Rattle.lwk_space.specs.Lacks.{memory}
use Rattle.lwk_views.proofs.Doing.{did_alone}
use Rattle.std.proofs.Common.{ap, of_z, rules, subst, sym, to_z, w64, ◌∙◌, ◌≡◌}
use Rattle.std.specs.Prelude.{length}
use Rattle.vm_calls.specs.Facts.{decision}
use Rattle.vm_calls.specs.declared.VmPlan.{VmPlan}

pub make_change-requires-clause-room : goal.make_change-requires-clause-room
make_change-requires-clause-room g c = λ files.
    let own = c.args.task.now.space in
    let brk = (process_of (node_of c.args.self.now.node files) c.args.p.0).program_break in
    subst (λ (v : VmPlan). HasDecidedRoom (g.T.PageTable.has_room own.table) own.areas.spare brk (decision v)) c.in-Now.is (c.requires.room files)

pub make_change-requires-clause-ahead : goal.make_change-requires-clause-ahead
make_change-requires-clause-ahead g c = λ files.
    let lwk = c.args.self.now in
    let brk = (process_of (node_of lwk.node files) c.args.p.0).program_break in
    let m = memory (g.T.PageTable.rows c.args.task.now.space.table) lwk.frames in
    subst (λ (v : VmPlan). IsAhead m (length lwk.pool.free) brk (decision v)) c.in-Now.is (c.requires.ahead files)

pub returns-in-Reply-clause-after : goal.returns-in-Reply-clause-after
returns-in-Reply-clause-after g c = λ channel r.
    let rows = g.T.PageTable.rows c.args.task.now.space.table in
    let lwk = c.args.self.now in
    let t = c.args.t.0 in
    let h = here_of lwk rows c.args.task.now channel r in
    let same : to_z w64 (of_z w64 c.in-Reply.answer) ≡ c.in-Reply.answer = search rules in
    did-is lwk c.answered.new.self lwk.frames rows c.args.task.now channel r (answers t c.in-Reply.answer)
    (did_alone lwk.node c.answered.new.self (answered t c.in-Reply.answer) (λ files. c.answered.ensures.node files ∙ ap (λ z. answered t z (node_of lwk.node files)) same) rows lwk.frames c.requires.sound.inside)
    ∙ ap (λ (v : VmPlan). trapped c.args.p.0 t (decided t (view_here h) (decision v)) h) (sym c.in-Reply.is)

pub returns-in-Now-clause-after : goal.returns-in-Now-clause-after
returns-in-Now-clause-after g c = λ channel r.
    let t = c.args.t.0 in
    let h = here_of c.args.self.now (g.T.PageTable.rows c.args.task.now.space.table) c.args.task.now channel r in
    c.make_change.ensures.after channel r
    ∙ ap (λ (v : VmPlan). trapped c.args.p.0 t (decided t (view_here h) (decision v)) h) (sym c.in-Now.is)

pub returns-in-Round-clause-after : goal.returns-in-Round-clause-after
returns-in-Round-clause-after g c = λ channel r.
    let rows = g.T.PageTable.rows c.args.task.now.space.table in
    let lwk = c.args.self.now in
    let t = c.args.t.0 in
    let h = here_of lwk rows c.args.task.now channel r in
    did-is lwk c.set_does.new.self lwk.frames rows c.args.task.now channel r (on_node (set_does t (InVm c.in-Round.change)))
    (did_alone lwk.node c.set_does.new.self (set_does t (InVm c.in-Round.change)) c.set_does.ensures.node rows lwk.frames c.requires.sound.inside)
    ∙ ap (λ (v : VmPlan). trapped c.args.p.0 t (decided t (view_here h) (decision v)) h) (sym c.in-Round.is)
