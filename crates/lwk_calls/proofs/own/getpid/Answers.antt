use Rattle.kernel_model.specs.Nodes.{Node as KernelNode, answered, thread_of}
use Rattle.kernel_tables.specs.Shown.{node_of}
use Rattle.lwk_views.proofs.Doing.{did_alone}
use Rattle.std.proofs.Common.{ap, pos, rules, to_z, w64, ℤ, ◌≡◌, ◌∙◌}
use Rattle.lwk_calls.proofs.own.getpid.Goals as goal

pub returns-clause-did : goal.returns-clause-did
returns-clause-did c =
    let t = c.args.t.0 in
    let p = c.process_of_thread-p.result.0 in
    let number : to_z w64 p ≡ pos p = search rules in
    did_alone c.args.node.now c.answered.new.self (λ (k : KernelNode). answered t (pos (thread_of k t).process) k)
    (λ files. c.answered.ensures.node files ∙ ap (λ (z : ℤ). answered t z (node_of c.args.node.now files)) (number ∙ ap pos (c.process_of_thread-p.ensures files)))
