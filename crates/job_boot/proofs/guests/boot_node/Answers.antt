use Rattle.job_boot.proofs.guests.boot_node.Goals as goal
use Rattle.kernel_model.specs.OneKernel.{boot_files}
use Rattle.kernel_tables.specs.Shown.{node_of}

pub returns : goal.returns
unfolding node_of
returns c = λ i. record (c.new-node.ensures (boot_files c.args.job.now) i) { unsent = c.in_ok-node.ensures i }
