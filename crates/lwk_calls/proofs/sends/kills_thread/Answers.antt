use Rattle.file_model.specs.Errno.{ESRCH}
use Rattle.kernel_model.specs.LocalCalls.{answers, refuses}
use Rattle.kernel_model.specs.Nodes.{Node as KernelNode, answered}
use Rattle.kernel_model.specs.SignalCalls.{kills_thread, send}
use Rattle.kernel_model.specs.Signals.{View, generate_for_thread, on_node}
use Rattle.lwk_calls.proofs.Sending.{kills_thread_not, kills_thread_there}
use Rattle.lwk_views.proofs.Doing.{did_alone, did_alone_as}
use Rattle.lwk_views.specs.Views.{seen}
use Rattle.std.proofs.Common.{ap, pos, sym, ◌∙◌}
use Rattle.lwk_calls.proofs.sends.kills_thread.Goals as goal

pub returns-then-is_thread_there-clause-did : goal.returns-then-is_thread_there-clause-did
returns-then-is_thread_there-clause-did c =
    let n = c.args.node.now in
    let t = c.args.t.0 in
    let p = c.args.p.0 in
    let tid = c.args.tid.0 in
    let signal = c.args.signal in
    did_alone_as n c.answered.new.self (λ (v : View). answers t (pos 0) (on_node (send signal (generate_for_thread tid)) v)) (kills_thread t p tid signal)
    (λ rows pages files. kills_thread_there t (seen rows n pages files) p tid signal (sym (c.is_thread_there.ensures files) ∙ c.if-is_thread_there.true))
    (did_alone n c.answered.new.self (λ (k : KernelNode). answered t (pos 0) (send signal (generate_for_thread tid) k))
    (λ files. c.answered.ensures.node files ∙ ap (answered t (pos 0)) (c.send_to_thread.ensures.is files)))

pub returns-else-is_thread_there-clause-did : goal.returns-else-is_thread_there-clause-did
returns-else-is_thread_there-clause-did c =
    let n = c.args.node.now in
    let t = c.args.t.0 in
    did_alone_as n c.answers.new.node (refuses t ESRCH) (kills_thread t c.args.p.0 c.args.tid.0 c.args.signal)
    (λ rows pages files. kills_thread_not t (seen rows n pages files) c.args.p.0 c.args.tid.0 c.args.signal (sym (c.is_thread_there.ensures files) ∙ c.if-is_thread_there.false))
    c.answers.ensures.did
