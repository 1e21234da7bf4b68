use Rattle.kernel_model.specs.Nodes.{answered}
use Rattle.kernel_tables.specs.Shown.{node_of}
use Rattle.lwk_views.proofs.Doing.{did_alone}
use Rattle.std.proofs.Common.{ap, of_z, rules, to_z, w64, ◌≡◌, ◌∙◌}
use Rattle.lwk_calls.proofs.answering.answers.Goals as goal

pub returns-clause-did : goal.returns-clause-did
returns-clause-did c =
    let t = c.args.t.0 in
    let same : to_z w64 (of_z w64 c.args.answer) ≡ c.args.answer = search rules in
    did_alone c.args.node.now c.answered.new.self (answered t c.args.answer) (λ files. c.answered.ensures.node files ∙ ap (λ z. answered t z (node_of c.args.node.now files)) same)
