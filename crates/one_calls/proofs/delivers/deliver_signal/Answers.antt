use Rattle.kernel_model.specs.Nodes.{Node as KernelNode, action_of, change_process, dies, process_of}
use Rattle.kernel_model.specs.Signals.{deliver_signal, enter_handler, on_node}
use Rattle.mck_word.specs.declared.End.TheVariants.{Killed}
use Rattle.one_calls.proofs.Delivering.{delivers_default, delivers_handler, kills_by}
use Rattle.one_calls.proofs.Doing.{did_as, did_on_node}
use Rattle.one_calls.specs.Views.{seen}
use Rattle.std.proofs.Common.{ap, ◌∙◌}
use Rattle.std.proofs.lemmas.Bool.{eq-eqb, ne_eqb}
use Rattle.one_calls.proofs.delivers.deliver_signal.Goals as goal

pub returns-then-a-eq-DEFAULT : goal.returns-then-a-eq-DEFAULT
returns-then-a-eq-DEFAULT c =
    let n = c.args.node.now in
    let m = c.args.memory.now.map in
    let t = c.args.t.0 in
    let signal = c.args.signal in
    let p = c.process_of_thread-p.result.0 in
    let a = c.action-a.result in
    did_as m n c.dies.new.self m (on_node (kills_by t signal a p)) (deliver_signal t signal)
    (λ files. let v = seen n m files in
    delivers_default t signal p a v (c.process_of_thread-p.ensures files) (c.action-a.ensures files ∙ ap (λ q. action_of (process_of v.node q) signal) (c.process_of_thread-p.ensures files))
    (eq-eqb a.handler 0 c.if-a-eq-DEFAULT.true))
    (did_on_node m n c.dies.new.self (kills_by t signal a p)
    (λ files. c.dies.ensures.node files ∙ ap (λ (k : KernelNode). change_process p (dies (Killed signal)) k) (c.interrupted.ensures.node files)))

pub returns-else-a-eq-DEFAULT : goal.returns-else-a-eq-DEFAULT
returns-else-a-eq-DEFAULT c =
    let n = c.args.node.now in
    let m = c.args.memory.now.map in
    let t = c.args.t.0 in
    let signal = c.args.signal in
    let p = c.process_of_thread-p.result.0 in
    let a = c.action-a.result in
    did_as m n c.enter_handler.new.node c.enter_handler.new.memory.map (enter_handler t signal a) (deliver_signal t signal)
    (λ files. let v = seen n m files in
    delivers_handler t signal p a v (c.process_of_thread-p.ensures files) (c.action-a.ensures files ∙ ap (λ q. action_of (process_of v.node q) signal) (c.process_of_thread-p.ensures files))
    (ne_eqb a.handler 0 c.if-a-eq-DEFAULT.false))
    c.enter_handler.ensures
