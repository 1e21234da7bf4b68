use Rattle.file_model.specs.Files.{root_only}
use Rattle.hybrid_model.specs.OneProcess.{view_here}
use Rattle.hybrid_model.specs.Trap.{trapped}
use Rattle.isa_model.specs.declared.stops.Stop.{Stop}
use Rattle.kernel_model.specs.Nodes.{thread_of}
use Rattle.kernel_model.specs.Traps.{Trapped, call_named, called, past_ecall, trap_of_stop}
use Rattle.kernel_tables.specs.Shown.{node_of}
use Rattle.lwk_side.proofs.Planned.{raises-signal}
use Rattle.lwk_side.proofs.kernel.Lwk.trap_of_stop.Goals as goal
use Rattle.lwk_side.specs.Begins.{begins_at, names_delegated}
use Rattle.lwk_side.specs.Cloning.{forks_at, names_fork}
use Rattle.lwk_side.specs.Changing.{HasTrappedRoom}
use Rattle.lwk_side.specs.Shown.{here_of}
use Rattle.lwk_side.specs.Trapping.{CallFits}
use Rattle.lwk_views.specs.Views.{seen}
use Rattle.mck_word.specs.declared.Regs.{Regs}
use Rattle.std.proofs.Common.{ap, subst, sym, ◌∙◌}
use Rattle.std.specs.Prelude.{Some, length}

pub call-requires-clause-place : goal.call-requires-clause-place
call-requires-clause-place g c = λ e. c.requires.place root_only
    (ap (λ (s : Stop). begins_at (thread_of (node_of c.args.self.now.node root_only) c.args.t.0).regs (Some s)) c.in-Ecall.is ∙ ap names_delegated (sym (c.regs-regs.ensures root_only)) ∙ e)

pub call-requires-clause-fits : goal.call-requires-clause-fits
call-requires-clause-fits g c =
    subst (λ (x : Regs). CallFits c.args.self.now.node c.args.t.0 x) (sym (c.regs-regs.ensures root_only)) (c.requires.fits root_only)

pub call-requires-clause-no_fork : goal.call-requires-clause-no_fork
call-requires-clause-no_fork g c =
    ap names_fork (c.regs-regs.ensures root_only)
    ∙ ap (λ (s : Stop). forks_at (thread_of (node_of c.args.self.now.node root_only) c.args.t.0).regs (Some s)) (sym c.in-Ecall.is) ∙ c.requires.no_fork root_only

pub call-requires-clause-change : goal.call-requires-clause-change
call-requires-clause-change g c = λ files.
    let lwk = c.args.self.now in
    let own = c.args.task.now.space in
    let t = c.args.t.0 in
    let free = length lwk.pool.free in
    let v = seen (g.T.PageTable.rows own.table) lwk.node lwk.frames files in
    let made = ap (λ (s : Stop). trap_of_stop t free v (Some s)) c.in-Ecall.is ∙ ap (λ (x : Regs). called t free x (past_ecall t v) (call_named x)) (sym (c.regs-regs.ensures files)) in
    subst (λ (x : Trapped). HasTrappedRoom (g.T.PageTable.has_room own.table) own.areas.spare c.args.p.0 x) made (c.requires.change files)

pub returns-in-Ecall-clause-after : goal.returns-in-Ecall-clause-after
returns-in-Ecall-clause-after g c = λ r.
    let p = c.args.p.0 in
    let h = here_of c.args.self.now (g.T.PageTable.rows c.args.task.now.space.table) c.args.task.now c.args.channel.now r in
    let t = c.args.t.0 in
    let free = length h.free in
    c.call.ensures.after r
    ∙ ap (λ (x : Regs). trapped p t (called t free x (past_ecall t (view_here h)) (call_named x)) h) (c.regs-regs.ensures r.files)
    ∙ ap (λ (s : Stop). trapped p t (trap_of_stop t free (view_here h) (Some s)) h) (sym c.in-Ecall.is)

pub returns-in_default-clause-after : goal.returns-in_default-clause-after
returns-in_default-clause-after g c = λ r.
    let p = c.args.p.0 in
    let h = here_of c.args.self.now (g.T.PageTable.rows c.args.task.now.space.table) c.args.task.now c.args.channel.now r in
    let t = c.args.t.0 in
    let free = length h.free in
    c.raises_signal.ensures.after c.args.channel.now r
    ∙ ap (λ (x : Trapped). trapped p t x h) (sym (raises-signal t free (view_here h) c.args.stop (λ e. absurd (c.in_default.not-Ecall e))))
