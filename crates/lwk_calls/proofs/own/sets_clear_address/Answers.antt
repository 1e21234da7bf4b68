use Rattle.kernel_model.specs.Nodes.{Node as KernelNode, Thread, answered, change_thread}
use Rattle.lwk_views.proofs.Doing.{did_alone}
use Rattle.std.proofs.Common.{pos, rules, to_z, w64, ◌≡◌, ◌∙◌}
use Rattle.lwk_calls.proofs.own.sets_clear_address.Goals as goal

pub returns-clause-did : goal.returns-clause-did
returns-clause-did c =
    let t = c.args.t.0 in
    let number : to_z w64 t ≡ pos t = search rules in
    did_alone c.args.node.now c.answered.new.self (λ (k : KernelNode). answered t (pos t) (change_thread t (λ (x : Thread). record x { clear_address = c.args.address }) k))
    (λ files. c.answered.ensures.node files ∙ (λ i. answered t (number i) (c.set_clear_address.ensures.node files i)))
