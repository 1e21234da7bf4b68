use Rattle.kernel_model.specs.LocalCalls.{answers}
use Rattle.kernel_model.specs.Nodes.{answered}
use Rattle.kernel_model.specs.Traps.{past_ecall}
use Rattle.lwk_side.proofs.Behind.{behind, did-after}
use Rattle.lwk_side.proofs.Viewing.{did-is}
use Rattle.lwk_side.proofs.kernel.Lwk.refuses_fork.Goals as goal
use Rattle.kernel_tables.specs.Shown.{node_of}
use Rattle.lwk_views.proofs.Doing.{did_alone}
use Rattle.std.proofs.Common.{ap, of_z, rules, to_z, w64, ◌∙◌, ◌≡◌}

pub returns-clause-after : goal.returns-clause-after
returns-clause-after g c = λ channel r.
    let rows = g.T.PageTable.rows c.args.task.now.space.table in
    let lwk = c.args.self.now in
    let t = c.args.t.0 in
    let same : to_z w64 (of_z w64 c.args.answer) ≡ c.args.answer = search rules in
    did-is lwk c.answered.new.self lwk.frames rows c.args.task.now channel r (λ v. answers t c.args.answer (past_ecall t v))
    (did-after rows lwk.node c.past_ecall.new.self c.answered.new.self lwk.frames lwk.frames (behind t) (answers t c.args.answer) c.past_ecall.ensures.node
    (did_alone c.past_ecall.new.self c.answered.new.self (answered t c.args.answer) (λ files. c.answered.ensures.node files ∙ ap (λ z. answered t z (node_of c.past_ecall.new.self files)) same) rows lwk.frames c.requires.sound.inside))
