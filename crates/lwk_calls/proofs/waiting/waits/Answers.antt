use Rattle.kernel_model.specs.CloneCalls.{begins_wait, may_end_wait, wait_over}
use Rattle.lwk_calls.specs.Words.{waits}
use Rattle.kernel_tables.specs.Shown.{node_of}
use Rattle.lwk_views.proofs.Doing.{did_as}
use Rattle.lwk_views.specs.Views.{Did, seen}
use Rattle.std.proofs.Common.{ap, cond, of_z, rules, subst, sym, to_z, w32, ◌≡◌, ◌∙◌}
use Rattle.lwk_calls.proofs.waiting.waits.Goals as goal

pub returns-else-may_end_wait-clause-did : goal.returns-else-may_end_wait-clause-did
returns-else-may_end_wait-clause-did g c =
    let rows = g.T.PageTable.rows c.args.space.now.table in
    let n = c.args.node.now in
    let pages = c.args.mem.now in
    let after = c.begins_wait.new.node in
    let t = c.args.t.0 in
    let pid = c.args.pid in
    let given : to_z w32 (of_z w32 pid) ≡ pid = search rules in
    did_as rows pages n after pages (begins_wait t pid c.args.status c.args.options) (waits t pid c.args.status c.args.options)
    (λ files. let v = seen rows n pages files in
    ap (λ b. cond b (wait_over t pid c.args.status v) (begins_wait t pid c.args.status c.args.options v))
    ((λ i. may_end_wait (node_of n files) (sym (c.process_of_thread-p.ensures files) i) (sym given i)) ∙ (sym (c.may_end_wait.ensures files) ∙ c.if-may_end_wait.false)))
    (subst (λ z. Did rows n pages after pages (begins_wait t z c.args.status c.args.options)) given (c.begins_wait.ensures.did rows pages c.requires.frames))
