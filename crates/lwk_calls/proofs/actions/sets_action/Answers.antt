use Rattle.kernel_model.specs.LocalCalls.{answers}
use Rattle.kernel_model.specs.Nodes.{Node as KernelNode, action_of, answered, process_of}
use Rattle.kernel_model.specs.SignalCalls.{action_bytes, sets_action}
use Rattle.kernel_model.specs.Signals.{View, on_node}
use Rattle.lwk_calls.proofs.Acting.{sets_action_as}
use Rattle.lwk_calls.proofs.Pointing.{stores_there}
use Rattle.lwk_calls.specs.SignalWords.{given_action, stores_at}
use Rattle.kernel_tables.specs.Shown.{node_of}
use Rattle.lwk_views.proofs.Doing.{begins, did, did_as, steps}
use Rattle.lwk_views.specs.Views.{seen}
use Rattle.std.proofs.Common.{ap, pos, ◌∙◌}
use Rattle.lwk_calls.proofs.actions.sets_action.Goals as goal

pub returns-clause-did : goal.returns-clause-did
returns-clause-did g c =
    let rows = g.T.PageTable.rows c.args.space.now.table in
    let n = c.args.node.now in
    let pages = c.args.mem.now in
    let left = c.store_action.new.mem in
    let after = c.answered.new.self in
    let t = c.args.t.0 in
    let signal = c.args.signal in
    let old = c.args.old in
    let p = c.process_of_thread-p.result.0 in
    let a = c.action-before.result in
    let o = c.asked_action-new.result in
    let bytes = action_bytes a in
    let word = λ (v : View). answers t (pos 0) (on_node (given_action p signal o) (stores_at old bytes v)) in
    did_as rows pages n after left word (sets_action t signal c.args.act old)
    (λ files. let v = seen rows n pages files in
    sets_action_as t signal c.args.act old p o a v (c.process_of_thread-p.ensures files) c.asked_action-new.ensures
    (c.action-before.ensures files ∙ ap (λ q. action_of (process_of v.node q) signal) (c.process_of_thread-p.ensures files)))
    (did rows pages n after left word c.requires.frames c.store_action.ensures.others c.store_action.ensures.count
    (λ files. let k = node_of n files in let v = seen rows n pages files in
    steps rows pages (λ (x : KernelNode). answered t (pos 0) (given_action p signal o x)) k (node_of after files) left (stores_at old bytes v)
    (c.answered.ensures.node files ∙ ap (answered t (pos 0)) (c.give_action.ensures.is files))
    (stores_there rows pages old bytes k pages left v c.requires.written c.store_action.ensures.memory (begins rows pages k))))
