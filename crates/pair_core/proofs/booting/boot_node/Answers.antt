use Rattle.kernel_model.specs.OneKernel.{boot_files}
use Rattle.kernel_tables.specs.Shown.{node_of}
use Rattle.pair_core.proofs.booting.boot_node.Goals as goal

pub returns : goal.returns
unfolding node_of
returns c = λ i. record (c.new-node.ensures (boot_files c.args.job.now) i) { unsent = c.in_ok-node.ensures i }
