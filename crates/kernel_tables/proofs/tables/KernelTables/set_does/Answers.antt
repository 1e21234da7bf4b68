use Rattle.kernel_model.specs.Nodes.{Thread as KernelThread}
use Rattle.kernel_tables.proofs.Rows.{thread_changed}
use Rattle.std.proofs.Common.{refl}
use Rattle.kernel_tables.proofs.tables.KernelTables.set_does.Goals as goal

pub returns-clause-node : goal.returns-clause-node
returns-clause-node c = λ files. thread_changed _ files _ c.args.t.0 _ (λ (x : KernelThread). record x { does = c.args.does }) c.set_state.ensures (λ x. refl)
