use Rattle.kernel_model.specs.CloneCalls.{parent_number}
use Rattle.kernel_model.specs.Nodes.{Node as KernelNode, answered, thread_of}
use Rattle.kernel_tables.specs.Shown.{node_of}
use Rattle.lwk_views.proofs.Doing.{did_alone}
use Rattle.std.proofs.Common.{ap, pos, rules, to_z, w64, ℤ, ◌≡◌, ◌∙◌}
use Rattle.lwk_calls.proofs.own.getppid.Goals as goal

pub returns-clause-did : goal.returns-clause-did
returns-clause-did c =
    let t = c.args.t.0 in
    let parent = c.parent_number-parent.result in
    let number : to_z w64 parent ≡ pos parent = search rules in
    did_alone c.args.node.now c.answered.new.self (λ (k : KernelNode). answered t (pos (parent_number k (thread_of k t).process)) k)
    (λ files. let k = node_of c.args.node.now files in
    c.answered.ensures.node files
    ∙ ap (λ (z : ℤ). answered t z k) (number ∙ ap pos (c.parent_number-parent.ensures files ∙ ap (parent_number k) (c.process_of_thread-p.ensures files))))
