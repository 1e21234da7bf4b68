use Rattle.kernel_model.specs.Signals.{set_action}
use Rattle.kernel_tables.proofs.Rows.{process_changed}
use Rattle.std.proofs.Common.{refl}
use Rattle.kernel_tables.proofs.tables.KernelTables.with_action.Goals as goal

pub returns-clause-node : goal.returns-clause-node
returns-clause-node c = λ files. process_changed _ files _ c.args.p.0 _ (set_action c.args.signal c.args.a) c.set_action.ensures (λ x. refl)
