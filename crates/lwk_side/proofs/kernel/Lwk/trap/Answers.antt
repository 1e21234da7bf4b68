use Rattle.hybrid_model.specs.OneProcess.{ran_last}
use Rattle.kernel_model.specs.Nodes.{stop_in}
use Rattle.kernel_model.specs.Traps.{Trapped, trap, trap_of_stop}
use Rattle.kernel_model.specs.declared.Does.{Does}
use Rattle.lwk_side.proofs.Planned.{after-stop}
use Rattle.lwk_side.proofs.kernel.Lwk.trap.Goals as goal
use Rattle.lwk_side.specs.Changing.{HasTrappedRoom}
use Rattle.lwk_side.specs.Shown.{here_of}
use Rattle.lwk_views.specs.Views.{seen}
use Rattle.std.proofs.Common.{ap, subst, sym, ◌∙◌}
use Rattle.std.specs.Prelude.{length}

pub trap_of_stop-requires-clause-change : goal.trap_of_stop-requires-clause-change
unfolding trap
trap_of_stop-requires-clause-change g c = λ files.
    let lwk = c.args.self.now in
    let own = c.args.task.now.space in
    let t = c.args.t.0 in
    let v = seen (g.T.PageTable.rows own.table) lwk.node lwk.frames files in
    let made = ap (λ (d : Does). trap_of_stop t (length lwk.pool.free) v (stop_in d)) (sym (c.does.ensures files) ∙ c.in-Stopped.is) in
    subst (λ (x : Trapped). HasTrappedRoom (g.T.PageTable.has_room own.table) own.areas.spare c.args.p.0 x) made (c.requires.change files)

pub returns-clause-event : goal.returns-clause-event
returns-clause-event g c = λ r.
    let rows = g.T.PageTable.rows c.args.task.now.space.table in
    let h = here_of c.args.self.now rows c.args.task.now c.args.channel.now r in
    let t = c.args.t.0 in
    ap (λ l. here_of l (g.T.PageTable.rows c.trap_of_stop.new.task.space.table) c.trap_of_stop.new.task c.trap_of_stop.new.channel r) c.ran_last.ensures
    ∙ ap (ran_last t) (c.trap_of_stop.ensures.after r)
    ∙ after-stop c.args.p.0 t h c.in-Stopped.stop (ap stop_in (sym (c.does.ensures r.files) ∙ c.in-Stopped.is))
