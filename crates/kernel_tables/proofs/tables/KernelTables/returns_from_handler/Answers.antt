use Rattle.kernel_model.specs.Nodes.{Node as KernelNode, Thread as KernelThread, change_thread}
use Rattle.kernel_model.specs.declared.Does.TheVariants.{Ready}
use Rattle.kernel_tables.proofs.Twice.{thread_twice}
use Rattle.kernel_tables.specs.Shown.{node_of}
use Rattle.std.proofs.Common.{ap, ◌∙◌}
use Rattle.kernel_tables.proofs.tables.KernelTables.returns_from_handler.Goals as goal

pub returns-clause-node : goal.returns-clause-node
returns-clause-node c = λ files.
    let f = λ (x : KernelThread). record x { regs = c.args.regs; does = Ready } in
    let g = λ (x : KernelThread). record x { mask = c.args.mask.0 } in
    c.set_mask.ensures.node files ∙ ap (λ (n : KernelNode). change_thread c.args.t.0 g n) (c.is_ready_with.ensures.node files) ∙ thread_twice (node_of c.args.self.now files) c.args.t.0 f g
