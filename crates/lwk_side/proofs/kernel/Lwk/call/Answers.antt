use Rattle.hybrid_model.specs.OneProcess.{view_here}
use Rattle.hybrid_model.specs.Trap.{trapped}
use Rattle.kernel_model.specs.CallPhases.{phases_of}
use Rattle.kernel_model.specs.Calls.{clone_call, local_call}
use Rattle.kernel_model.specs.Progress.{starting}
use Rattle.kernel_model.specs.Traps.{Begins, Done, Trapped, call_named, called, cloned, past_ecall}
use Rattle.lwk_side.proofs.Cloned.{clone-done}
use Rattle.lwk_side.proofs.Planned.{local-done}
use Rattle.lwk_side.proofs.kernel.Lwk.call.Goals as goal
use Rattle.lwk_side.specs.Begins.{is_delegated}
use Rattle.lwk_side.specs.Changing.{HasTrappedRoom, memory_call}
use Rattle.lwk_side.specs.Cloning.{is_fork}
use Rattle.lwk_side.specs.Shown.{here_of}
use Rattle.lwk_views.specs.Views.{seen}
use Rattle.std.proofs.Common.{ap, subst, sym, ◌∙◌, ◌≡◌}
use Rattle.std.specs.Prelude.{Option, Some, get_or, length}
use Rattle.system_calls.specs.declared.SystemCall.{SystemCall}
use Rattle.system_calls.specs.declared.SystemCall.TheVariants.{Clone, File, Local, Memory}

pub returns-in-None-clause-after : goal.returns-in-None-clause-after
returns-in-None-clause-after g c = λ r.
    let p = c.args.p.0 in
    let h = here_of c.args.self.now (g.T.PageTable.rows c.args.task.now.space.table) c.args.task.now c.args.channel.now r in
    let t = c.args.t.0 in
    let regs = c.args.regs.now in
    c.refuses_call.ensures.after c.args.channel.now r
    ∙ ap (λ (o : Option SystemCall). trapped p t (called t (length h.free) regs (past_ecall t (view_here h)) o) h) c.in-None.ensures

pub clones-requires-clause-clone : goal.clones-requires-clause-clone
clones-requires-clause-clone g c =
    let named : Some Clone ≡ call_named c.args.regs.now = sym (ap (λ x. Some x) c.in-Some-Clone.field-0-is) ∙ c.in-Some-Clone.ensures in
    c.requires.fits.clone (sym named)

pub returns-in-Some-Clone-clause-after : goal.returns-in-Some-Clone-clause-after
returns-in-Some-Clone-clause-after g c = λ r.
    let p = c.args.p.0 in
    let h = here_of c.args.self.now (g.T.PageTable.rows c.args.task.now.space.table) c.args.task.now c.args.channel.now r in
    let t = c.args.t.0 in
    let free = length h.free in
    let regs = c.args.regs.now in
    let v = past_ecall t (view_here h) in
    let xs = c.arguments_of-args.result in
    let named : Some Clone ≡ call_named regs = sym (ap (λ x. Some x) c.in-Some-Clone.field-0-is) ∙ c.in-Some-Clone.ensures in
    let thread = (λ i. is_fork (named i) (get_or (c.arguments_of-args.ensures i) 0 0)) ∙ c.requires.no_fork in
    c.clones.ensures.after c.args.channel.now r
    ∙ ap (λ (x : Trapped). trapped p t x h) (sym (clone-done t free xs v thread))
    ∙ (λ i. trapped p t (cloned (clone_call t free (c.arguments_of-args.ensures i) v)) h)
    ∙ ap (λ (o : Option SystemCall). trapped p t (called t free regs v o) h) named

pub calls_locally-requires-clause-rest : goal.calls_locally-requires-clause-rest
calls_locally-requires-clause-rest g c = λ e.
    let named : Some (Local c.in-Some-Local.call) ≡ call_named c.args.regs.now = sym (ap (λ x. Some x) c.in-Some-Local.field-0-is) ∙ c.in-Some-Local.ensures in
    c.requires.fits.rest (sym named ∙ ap (λ x. Some (Local x)) e)

pub returns-in-Some-Local-clause-after : goal.returns-in-Some-Local-clause-after
returns-in-Some-Local-clause-after g c = λ r.
    let p = c.args.p.0 in
    let h = here_of c.args.self.now (g.T.PageTable.rows c.args.task.now.space.table) c.args.task.now c.args.channel.now r in
    let t = c.args.t.0 in
    let regs = c.args.regs.now in
    let v = past_ecall t (view_here h) in
    let call = c.in-Some-Local.call in
    let named : Some (Local call) ≡ call_named regs = sym (ap (λ x. Some x) c.in-Some-Local.field-0-is) ∙ c.in-Some-Local.ensures in
    c.calls_locally.ensures.after c.args.channel.now r
    ∙ ap (λ x. trapped p t (Done x) h) (local-done t call c.arguments_of-args.result v)
    ∙ (λ i. trapped p t (Done (local_call t call (c.arguments_of-args.ensures i) v)) h)
    ∙ ap (λ (o : Option SystemCall). trapped p t (called t (length h.free) regs v o) h) named

pub calls_for_memory-requires-clause-room : goal.calls_for_memory-requires-clause-room
calls_for_memory-requires-clause-room g c = λ files.
    let lwk = c.args.self.now in
    let own = c.args.task.now.space in
    let rows = g.T.PageTable.rows own.table in
    let t = c.args.t.0 in
    let regs = c.args.regs.now in
    let free = length lwk.pool.free in
    let v = seen rows lwk.node lwk.frames files in
    let call = c.in-Some-Memory.call in
    let named : Some (Memory call) ≡ call_named regs = sym (ap (λ x. Some x) c.in-Some-Memory.field-0-is) ∙ c.in-Some-Memory.ensures in
    let made = ap (λ (o : Option SystemCall). called t free regs (past_ecall t v) o) (sym named) ∙ (λ i. memory_call t free call (sym c.arguments_of-args.ensures i) v) in
    subst (λ (x : Trapped). HasTrappedRoom (g.T.PageTable.has_room own.table) own.areas.spare c.args.p.0 x) made (c.requires.change files)

pub returns-in-Some-Memory-clause-after : goal.returns-in-Some-Memory-clause-after
returns-in-Some-Memory-clause-after g c = λ r.
    let p = c.args.p.0 in
    let h = here_of c.args.self.now (g.T.PageTable.rows c.args.task.now.space.table) c.args.task.now c.args.channel.now r in
    let t = c.args.t.0 in
    let free = length h.free in
    let regs = c.args.regs.now in
    let call = c.in-Some-Memory.call in
    let named : Some (Memory call) ≡ call_named regs = sym (ap (λ x. Some x) c.in-Some-Memory.field-0-is) ∙ c.in-Some-Memory.ensures in
    c.calls_for_memory.ensures.after c.args.channel.now r
    ∙ (λ i. trapped p t (memory_call t free call (c.arguments_of-args.ensures i) (view_here h)) h)
    ∙ ap (λ (o : Option SystemCall). trapped p t (called t free regs (past_ecall t (view_here h)) o) h) named

pub begins-requires-clause-place : goal.begins-requires-clause-place
begins-requires-clause-place g c =
    let named : Some (File c.in-Some-File.call) ≡ call_named c.args.regs.now = sym (ap (λ x. Some x) c.in-Some-File.field-0-is) ∙ c.in-Some-File.ensures in
    c.requires.place (ap is_delegated (sym named))

pub returns-in-Some-File-clause-after : goal.returns-in-Some-File-clause-after
returns-in-Some-File-clause-after g c = λ r.
    let p = c.args.p.0 in
    let h = here_of c.args.self.now (g.T.PageTable.rows c.args.task.now.space.table) c.args.task.now c.args.channel.now r in
    let t = c.args.t.0 in
    let regs = c.args.regs.now in
    let v = past_ecall t (view_here h) in
    let call = c.in-Some-File.call in
    let named : Some (File call) ≡ call_named regs = sym (ap (λ x. Some x) c.in-Some-File.field-0-is) ∙ c.in-Some-File.ensures in
    c.begins.ensures.after r p (phases_of call c.arguments_of-args.result)
    ∙ (λ i. trapped p t (Begins v.node (starting call (c.arguments_of-args.ensures i) (phases_of call (c.arguments_of-args.ensures i)))) h)
    ∙ ap (λ (o : Option SystemCall). trapped p t (called t (length h.free) regs v o) h) named
