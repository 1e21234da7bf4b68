use Rattle.file_model.specs.Errno.{ENOSYS}
use Rattle.kernel_model.specs.LocalCalls.{futex, futex_wake, refuses}
use Rattle.lwk_calls.proofs.Waking.{futex_unknown, futex_wakes}
use Rattle.lwk_views.proofs.Doing.{did_as}
use Rattle.lwk_views.specs.Views.{Did, seen}
use Rattle.mck_word.specs.Words.{int_argument}
use Rattle.std.proofs.Common.{of_z, rules, subst, sym, to_z, w32, ◌≡◌, ◌∙◌}
use Rattle.lwk_calls.proofs.futexes.futex.Goals as goal

pub returns-then-operation-eq-WAKE-clause-did : goal.returns-then-operation-eq-WAKE-clause-did
returns-then-operation-eq-WAKE-clause-did g c =
    let rows = g.T.PageTable.rows c.args.space.now.table in
    let n = c.args.node.now in
    let pages = c.args.mem.now in
    let t = c.args.t.0 in
    let a = c.args.address in
    let after = c.futex_wake.new.node in
    let given : to_z w32 (of_z w32 c.int.result) ≡ c.int.result = search rules in
    did_as rows pages n after pages (futex_wake t a (int_argument c.args.val)) (futex t a c.args.op c.args.val c.args.timeout)
    (λ files. futex_wakes t a c.args.op c.args.val c.args.timeout (seen rows n pages files) (sym c.futex_operation-operation.ensures ∙ c.if-operation-eq-WAKE.true))
    (subst (λ z. Did rows n pages after pages (futex_wake t a z)) (given ∙ c.int.ensures) (c.futex_wake.ensures.did rows pages c.requires.frames))

pub returns-else-operation-eq-WAKE-clause-did : goal.returns-else-operation-eq-WAKE-clause-did
returns-else-operation-eq-WAKE-clause-did g c =
    let rows = g.T.PageTable.rows c.args.space.now.table in
    let n = c.args.node.now in
    let pages = c.args.mem.now in
    let t = c.args.t.0 in
    let a = c.args.address in
    let operation = c.futex_operation-operation.ensures in
    did_as rows pages n c.answers.new.node pages (refuses t ENOSYS) (futex t a c.args.op c.args.val c.args.timeout)
    (λ files. futex_unknown t a c.args.op c.args.val c.args.timeout (seen rows n pages files)
    (λ e. c.if-operation-eq-WAIT.false (operation ∙ e)) (λ e. c.if-operation-eq-WAKE.false (operation ∙ e)))
    (c.answers.ensures.did rows pages c.requires.frames)
