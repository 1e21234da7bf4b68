use Rattle.kernel_tables.proofs.Made.{same_threads}
use Rattle.kernel_tables.proofs.tables.KernelTables.reserve_thread.Goals as goal

pub returns-clause-node : goal.returns-clause-node
returns-clause-node c = λ files. same_threads c.args.self.now files c.reserve.new.self c.reserve.ensures.same
