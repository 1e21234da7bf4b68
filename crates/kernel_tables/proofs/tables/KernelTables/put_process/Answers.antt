use Rattle.kernel_tables.proofs.Made.{process_put}
use Rattle.kernel_tables.proofs.tables.KernelTables.put_process.Goals as goal

pub returns-clause-node : goal.returns-clause-node
returns-clause-node c = λ files. process_put c.args.self.now files c.put.new.self c.args.p.0 c.args.process c.put.ensures.map
