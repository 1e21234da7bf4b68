use Rattle.kernel_model.specs.Nodes.{Node as KernelNode, answered}
use Rattle.kernel_model.specs.Signals.{view}
use Rattle.kernel_tables.specs.Shown.{node_of}
use Rattle.one_calls.proofs.forks.refuses_fork.Goals as goal
use Rattle.std.proofs.Common.{ap, of_z, rules, to_z, w64, ◌∙◌, ◌≡◌}

pub returns : goal.returns
returns c = λ files m.
    let t = c.args.t.0 in
    let same : to_z w64 (of_z w64 c.args.answer) ≡ c.args.answer = search rules in
    ap (λ k. view k m)
    (c.answered.ensures.node files ∙ ap (λ z. answered t z (node_of c.past_ecall.new.self files)) same
    ∙ ap (λ (k : KernelNode). answered t c.args.answer k) (c.past_ecall.ensures.node files))
