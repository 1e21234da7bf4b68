use Rattle.kernel_model.specs.Nodes.{dies}
use Rattle.kernel_tables.proofs.Rows.{process_changed}
use Rattle.std.proofs.Common.{refl}
use Rattle.kernel_tables.proofs.tables.KernelTables.dies.Goals as goal

pub returns-clause-node : goal.returns-clause-node
returns-clause-node c = λ files. process_changed _ files _ c.args.p.0 _ (dies c.args.end) c.dies.ensures (λ x. refl)
