use Rattle.kernel_model.specs.Signals.{View, deliver, deliver_signal, on_node, taken}
use Rattle.one_calls.proofs.Delivering.{deliver_next}
use Rattle.one_calls.proofs.Doing.{did_after, did_as}
use Rattle.one_calls.specs.Views.{seen}
use Rattle.std.proofs.Common.{sym, ◌∙◌}
use Rattle.one_calls.proofs.delivers.deliver.Goals as goal

pub returns-in-Some : goal.returns-in-Some
returns-in-Some c =
    let n = c.args.node.now in
    let m = c.args.memory.now.map in
    let t = c.args.t.0 in
    let signal = c.in-Some.signal in
    let left = c.deliver_signal.new.memory.map in
    did_as m n c.deliver_signal.new.node left (λ (v : View). deliver_signal t signal (on_node (taken t signal) v)) (deliver t)
    (λ files. deliver_next t signal (seen n m files) (sym (c.next_signal.ensures.is files) ∙ c.in-Some.is))
    (did_after m n c.taken.new.self c.deliver_signal.new.node left (taken t signal) (deliver_signal t signal) c.taken.ensures.node c.deliver_signal.ensures)
