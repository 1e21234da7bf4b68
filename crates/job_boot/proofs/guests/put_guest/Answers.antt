use Rattle.job_boot.proofs.Nodes.{alone, one-more}
use Rattle.job_boot.proofs.guests.put_guest.Goals as goal
use Rattle.kernel_model.specs.Nodes.{Node, threads_of}
use Rattle.kernel_tables.specs.Shown.{node_of, shown_process}
use Rattle.std.proofs.Common.{ap, length, ◌∙◌}

pub begin_thread-requires-clause-alone : goal.begin_thread-requires-clause-alone
begin_thread-requires-clause-alone c = λ files.
    ap (λ (n : Node). length (threads_of n c.args.number)) (c.put_process.ensures.node files) ∙ alone c.args.number (node_of c.args.node.now files) (c.requires.before files)

pub returns : goal.returns
returns c = λ files.
    one-more c.args.number c.args.regs c.args.base (node_of c.args.node.now files) (node_of c.put_process.new.self files) (node_of c.begin_thread.new.self files)
    (shown_process c.new_process.result) (c.requires.before files) c.requires.most (c.put_process.ensures.node files) (c.begin_thread.ensures.node files) c.new_process.ensures.is
