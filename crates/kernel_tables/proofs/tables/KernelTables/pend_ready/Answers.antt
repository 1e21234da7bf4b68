use Rattle.kernel_model.specs.Nodes.{Thread as KernelThread, set_does}
use Rattle.kernel_model.specs.SignalSets.{with_signal}
use Rattle.kernel_model.specs.declared.Does.TheVariants.{Ready}
use Rattle.kernel_tables.proofs.Twice.{thread_twice}
use Rattle.kernel_tables.specs.Shown.{node_of}
use Rattle.std.proofs.Common.{ap, ◌∙◌}
use Rattle.kernel_tables.proofs.tables.KernelTables.pend_ready.Goals as goal

pub returns-clause-node : goal.returns-clause-node
returns-clause-node c = λ files. c.set_does.ensures.node files ∙ ap (λ n. set_does c.args.t.0 Ready n) (c.pend_thread.ensures.node files)
    ∙ thread_twice (node_of c.args.self.now files) c.args.t.0 (λ (x : KernelThread). record x { pending = with_signal c.args.signal x.pending }) (λ (x : KernelThread). record x { does = Ready })
