use Rattle.futex_queues.specs.Sleep.{is_thread}
use Rattle.kernel_tables.proofs.Rows.{sleepers_are}
use Rattle.mck_word.specs.Lists.{without}
use Rattle.kernel_tables.proofs.tables.KernelTables.without_sleeper.Goals as goal

pub returns-clause-node : goal.returns-clause-node
returns-clause-node c = λ files. sleepers_are c.args.self.now files c.leave.new.self (λ ss. without (is_thread c.args.t.0) ss) c.leave.ensures.list
