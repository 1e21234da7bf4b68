use Rattle.file_model.specs.Errno.{ENOSYS}
use Rattle.kernel_model.specs.LocalCalls.{answers}
use Rattle.kernel_model.specs.Traps.{past_ecall}
use Rattle.lwk_side.proofs.Behind.{behind, did-after}
use Rattle.lwk_side.proofs.Viewing.{did-is}
use Rattle.lwk_side.proofs.kernel.Lwk.refuses_call.Goals as goal
use Rattle.mck_word.specs.Words.{refused}

pub returns-clause-after : goal.returns-clause-after
returns-clause-after g c = λ channel r.
    let rows = g.T.PageTable.rows c.args.task.now.space.table in
    let lwk = c.args.self.now in
    let t = c.args.t.0 in
    did-is lwk c.refuses_unknown.new.node lwk.frames rows c.args.task.now channel r (λ v. answers t (refused ENOSYS) (past_ecall t v))
    (did-after rows lwk.node c.past_ecall.new.self c.refuses_unknown.new.node lwk.frames lwk.frames (behind t) (answers t (refused ENOSYS)) c.past_ecall.ensures.node
    (c.refuses_unknown.ensures rows lwk.frames c.requires.sound.inside))
