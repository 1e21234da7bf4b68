use Rattle.kernel_model.specs.Calls.{one_of_calls}
use Rattle.kernel_model.specs.Traps.{past_ecall}
use Rattle.lwk_side.proofs.Behind.{behind, did-after, may-rest}
use Rattle.lwk_side.proofs.Viewing.{did-is}
use Rattle.lwk_side.proofs.kernel.Lwk.calls_locally.Goals as goal
use Rattle.std.specs.Prelude.{get_or, ℕ}

pub local_call-requires-clause-rest : goal.local_call-requires-clause-rest
local_call-requires-clause-rest g c = λ e. may-rest c.args.self.now.node c.past_ecall.new.self c.args.t.0 c.past_ecall.ensures.room c.past_ecall.ensures.node (c.requires.rest e)

pub returns-clause-after : goal.returns-clause-after
returns-clause-after g c = λ channel r.
    let rows = g.T.PageTable.rows c.args.task.now.space.table in
    let lwk = c.args.self.now in
    let t = c.args.t.0 in
    let a : ℕ → ℕ = λ k. get_or c.args.args.now k 0 in
    did-is lwk c.local_call.new.node c.local_call.new.mem rows c.args.task.now channel r (λ v. one_of_calls t c.args.call a (past_ecall t v))
    (did-after rows lwk.node c.past_ecall.new.self c.local_call.new.node lwk.frames c.local_call.new.mem (behind t) (one_of_calls t c.args.call a) c.past_ecall.ensures.node c.local_call.ensures)
