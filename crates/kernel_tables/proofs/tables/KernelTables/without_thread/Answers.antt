use Rattle.kernel_tables.proofs.Rows.{thread_cut}
use Rattle.kernel_tables.proofs.tables.KernelTables.without_thread.Goals as goal

pub returns-clause-node : goal.returns-clause-node
returns-clause-node c = λ files. thread_cut _ files _ c.args.t.0 c.remove.ensures.threads
