use Rattle.kernel_tables.proofs.Rows.{sleepers_are, sleepers_shown}
use Rattle.futex_queues.specs.Sleep.{left, thread_of, waiters}
use Rattle.std.proofs.Common.{ap, length, map, sym, take, ◌∙◌}
use Rattle.std.specs.Prelude.{min}
use Rattle.kernel_tables.proofs.tables.KernelTables.leave_queue.Goals as goal

pub returns-clause-count : goal.returns-clause-count
returns-clause-count c = λ files. c.wake.ensures.count ∙ ap (λ ss. min c.args.n (length (waiters c.args.p.0 c.args.address ss))) (sym (sleepers_shown c.args.self.now files))

pub returns-clause-woken : goal.returns-clause-woken
returns-clause-woken c = λ files. c.wake.ensures.woken ∙ ap (λ ss. map thread_of (take c.args.n (waiters c.args.p.0 c.args.address ss))) (sym (sleepers_shown c.args.self.now files))

pub returns-clause-node : goal.returns-clause-node
returns-clause-node c = λ files. sleepers_are c.args.self.now files c.wake.new.self (λ ss. left c.args.p.0 c.args.address c.args.n ss) c.wake.ensures.left
