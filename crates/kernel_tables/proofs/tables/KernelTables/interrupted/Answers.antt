use Rattle.kernel_model.specs.Nodes.{Thread as KernelThread}
use Rattle.kernel_model.specs.Signals.{interrupted_regs}
use Rattle.kernel_tables.proofs.Rows.{thread_changed}
use Rattle.std.proofs.Common.{false, refl}
use Rattle.kernel_tables.proofs.tables.KernelTables.interrupted.Goals as goal

pub returns-clause-node : goal.returns-clause-node
returns-clause-node c = λ files. thread_changed _ files _ c.args.t.0 _ (λ (x : KernelThread). record x { regs = interrupted_regs x.back c.args.a.now x.regs; back = false }) c.interrupt.ensures (λ x. refl)
