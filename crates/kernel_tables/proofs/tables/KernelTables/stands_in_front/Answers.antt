use Rattle.kernel_model.specs.Nodes.{Thread as KernelThread}
use Rattle.kernel_tables.proofs.Rows.{thread_changed}
use Rattle.std.proofs.Common.{false, refl}
use Rattle.kernel_tables.proofs.tables.KernelTables.stands_in_front.Goals as goal

pub returns-clause-node : goal.returns-clause-node
returns-clause-node c = λ files. thread_changed _ files _ c.args.t.0 _ (λ (x : KernelThread). record x { regs = c.args.regs; back = false }) c.set_front.ensures (λ x. refl)
