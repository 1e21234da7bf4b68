use Rattle.kernel_model.specs.CloneCalls.{wait_over}
use Rattle.kernel_model.specs.Nodes.{Node as KernelNode}
use Rattle.kernel_model.specs.Signals.{on_node}
use Rattle.kernel_model.specs.Traps.{waited}
use Rattle.lwk_calls.proofs.Told.{waits_not, waits_still}
use Rattle.lwk_views.proofs.Doing.{did_as, did_on_node}
use Rattle.lwk_views.specs.Views.{Did, seen}
use Rattle.std.proofs.Common.{of_z, refl, rules, subst, sym, to_z, w32, ◌≡◌, ◌∙◌}
use Rattle.lwk_calls.proofs.waiting.waited.Goals as goal

pub returns-in-InWait-clause-did : goal.returns-in-InWait-clause-did
returns-in-InWait-clause-did g c =
    let rows = g.T.PageTable.rows c.args.space.now.table in
    let n = c.args.node.now in
    let pages = c.args.mem.now in
    let after = c.wait_over.new.node in
    let left = c.wait_over.new.mem in
    let t = c.args.t.0 in
    let pid = c.in-InWait.pid in
    let status = c.in-InWait.status in
    let given : to_z w32 (of_z w32 pid) ≡ pid = search rules in
    did_as rows pages n after left (wait_over t pid status) (waited t)
    (λ files. waits_still t pid status (seen rows n pages files) (sym (c.does.ensures files) ∙ c.in-InWait.is))
    (subst (λ z. Did rows n pages after left (wait_over t z status)) given c.wait_over.ensures.did)

pub returns-in_default-clause-did : goal.returns-in_default-clause-did
returns-in_default-clause-did g c =
    let rows = g.T.PageTable.rows c.args.space.now.table in
    let n = c.args.node.now in
    let pages = c.args.mem.now in
    did_as rows pages n n pages (on_node (λ (k : KernelNode). k)) (waited c.args.t.0)
    (λ files. waits_not c.args.t.0 (seen rows n pages files) (λ pid status e. c.in_default.not-InWait pid status (c.does.ensures files ∙ e)))
    (did_on_node rows pages n n (λ (k : KernelNode). k) c.requires.frames (λ files. refl))
