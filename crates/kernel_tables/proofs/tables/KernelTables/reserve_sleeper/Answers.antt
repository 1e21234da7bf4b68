use Rattle.kernel_tables.proofs.Made.{same_sleepers}
use Rattle.kernel_tables.proofs.tables.KernelTables.reserve_sleeper.Goals as goal

pub returns-clause-node : goal.returns-clause-node
returns-clause-node c = λ files. same_sleepers c.args.self.now files c.reserve.new.self c.reserve.ensures.same
