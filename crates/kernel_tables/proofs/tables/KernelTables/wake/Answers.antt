use Rattle.kernel_model.specs.LocalCalls.{waiters}
use Rattle.kernel_tables.proofs.Passing.{answered_as_woken}
use Rattle.kernel_tables.specs.Shown.{node_of}
use Rattle.kernel_tables.specs.Steps.{all_answered, left_queue}
use Rattle.std.proofs.Common.{take, ◌∙◌}
use Rattle.kernel_tables.proofs.tables.KernelTables.wake.Goals as goal

pub returns-clause-node : goal.returns-clause-node
returns-clause-node c = λ files.
    let node = node_of c.args.self.now files in
    let threads = c.as_slice.ensures ∙ c.leave_queue-count.ensures.woken files in
    c.answer_all.ensures.node files ∙ (λ i. all_answered (threads i) (c.leave_queue-count.ensures.node files i))
    ∙ answered_as_woken (take c.args.n (waiters node c.args.p.0 c.args.address)) (left_queue c.args.p.0 c.args.address c.args.n node)
