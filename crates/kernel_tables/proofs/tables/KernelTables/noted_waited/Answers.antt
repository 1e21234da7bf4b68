use Rattle.kernel_model.specs.Nodes.{Process as KernelProcess}
use Rattle.kernel_tables.proofs.Rows.{process_changed}
use Rattle.std.proofs.Common.{refl, true}
use Rattle.kernel_tables.proofs.tables.KernelTables.noted_waited.Goals as goal

pub returns-clause-node : goal.returns-clause-node
returns-clause-node c = λ files. process_changed _ files _ c.args.child.0 _ (λ (x : KernelProcess). record x { waited = true }) c.set_waited.ensures (λ x. refl)
