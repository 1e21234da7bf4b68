use Rattle.kernel_tables.proofs.Made.{same_processes}
use Rattle.kernel_tables.proofs.tables.KernelTables.reserve_process.Goals as goal

pub returns-clause-node : goal.returns-clause-node
returns-clause-node c = λ files. same_processes c.args.self.now files c.reserve.new.self c.reserve.ensures.same
