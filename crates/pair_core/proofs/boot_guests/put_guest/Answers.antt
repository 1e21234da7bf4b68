use Rattle.kernel_model.specs.Layout.{guest_regs}
use Rattle.kernel_model.specs.Nodes.{Node, threads_of}
use Rattle.kernel_tables.specs.Shown.{node_of, shown_process}
use Rattle.pair_core.proofs.BootNode.{alone, guest-more}
use Rattle.pair_core.proofs.boot_guests.put_guest.Goals as goal
use Rattle.pair_core.specs.Booting.{guest_at}
use Rattle.std.proofs.Common.{ap, length, ◌∙◌}

pub begin_thread-requires-clause-alone : goal.begin_thread-requires-clause-alone
begin_thread-requires-clause-alone c = λ files.
    ap (λ (n : Node). length (threads_of n c.args.number)) (c.put_process.ensures.node files) ∙ alone c.args.number (node_of c.args.node.now files) (c.requires.before files)

pub returns : goal.returns
returns c = λ files.
    guest-more (guest_at c.args.number c.args.line.now c.args.image.now) (node_of c.args.node.now files) (node_of c.put_process.new.self files) (node_of c.begin_thread.new.self files)
    (shown_process c.guest_process.result) c.guest_regs-regs.result (c.requires.before files) c.requires.most (c.put_process.ensures.node files) (c.begin_thread.ensures.node files)
    (c.guest_process.ensures.is c.args.number c.args.line.now.args) (c.guest_regs-regs.ensures ∙ ap (guest_regs c.args.image.now) c.as_slice.ensures)
