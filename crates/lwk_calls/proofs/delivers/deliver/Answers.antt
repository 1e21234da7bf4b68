use Rattle.kernel_model.specs.Nodes.{Node as KernelNode}
use Rattle.kernel_model.specs.Signals.{View, deliver, deliver_signal, on_node, taken}
use Rattle.lwk_calls.proofs.Delivering.{deliver_next, deliver_none}
use Rattle.lwk_calls.proofs.Pointing.{did_after}
use Rattle.lwk_views.proofs.Doing.{did_as, did_on_node}
use Rattle.lwk_views.specs.Views.{seen}
use Rattle.std.proofs.Common.{refl, sym, ◌∙◌}
use Rattle.lwk_calls.proofs.delivers.deliver.Goals as goal

pub returns-in-Some-clause-did : goal.returns-in-Some-clause-did
returns-in-Some-clause-did g c =
    let rows = g.T.PageTable.rows c.args.space.now.table in
    let n = c.args.node.now in
    let pages = c.args.mem.now in
    let t = c.args.t.0 in
    let signal = c.in-Some.signal in
    did_as rows pages n c.deliver_signal.new.node c.deliver_signal.new.mem (λ (v : View). deliver_signal t signal (on_node (taken t signal) v)) (deliver t)
    (λ files. deliver_next t signal (seen rows n pages files) (sym (c.next_signal.ensures.is files) ∙ c.in-Some.is))
    (did_after rows pages n c.taken.new.self c.deliver_signal.new.node c.deliver_signal.new.mem (taken t signal) (deliver_signal t signal) c.taken.ensures.node c.deliver_signal.ensures.did)

pub returns-in-None-clause-did : goal.returns-in-None-clause-did
returns-in-None-clause-did g c =
    let rows = g.T.PageTable.rows c.args.space.now.table in
    let n = c.args.node.now in
    let pages = c.args.mem.now in
    let t = c.args.t.0 in
    did_as rows pages n n pages (on_node (λ (k : KernelNode). k)) (deliver t)
    (λ files. deliver_none t (seen rows n pages files) (sym (c.next_signal.ensures.is files) ∙ c.in-None.is))
    (did_on_node rows pages n n (λ (k : KernelNode). k) c.requires.frames (λ files. refl))
