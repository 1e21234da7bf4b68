use Rattle.kernel_model.specs.Nodes.{Node as KernelNode, Thread as KernelThread, change_thread}
use Rattle.kernel_model.specs.Signals.{handler_mask, handler_regs}
use Rattle.kernel_tables.proofs.Twice.{thread_twice}
use Rattle.kernel_tables.specs.Shown.{node_of}
use Rattle.std.proofs.Common.{ap, false, ◌∙◌}
use Rattle.kernel_tables.proofs.tables.KernelTables.enters_handler.Goals as goal

pub returns-clause-node : goal.returns-clause-node
returns-clause-node c = λ files.
    let f = λ (x : KernelThread). record x { regs = handler_regs c.args.a.now c.args.signal c.args.sp c.args.r.now; back = false } in
    let g = λ (x : KernelThread). record x { mask = handler_mask c.args.a.now c.args.signal x.mask } in
    let first = c.stands_in_front.ensures.node files ∙ (λ i. change_thread c.args.t.0 (λ (x : KernelThread). record x { regs = c.handler_regs-regs.ensures i; back = false }) (node_of c.args.self.now files)) in
    c.masks_handler.ensures.node files ∙ ap (λ (n : KernelNode). change_thread c.args.t.0 g n) first ∙ thread_twice (node_of c.args.self.now files) c.args.t.0 f g
