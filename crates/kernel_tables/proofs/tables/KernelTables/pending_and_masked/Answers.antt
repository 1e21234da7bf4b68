use Rattle.kernel_model.specs.Nodes.{process_of}
use Rattle.kernel_model.specs.SignalSets.{common, union}
use Rattle.kernel_tables.specs.Shown.{node_of}
use Rattle.std.proofs.Common.{ap, ◌∙◌}
use Rattle.kernel_tables.proofs.tables.KernelTables.pending_and_masked.Goals as goal

pub returns : goal.returns
returns c = λ files.
    let node = node_of c.args.self.now files in
    let shared = c.shared_pending.ensures files ∙ ap (λ p. (process_of node p).pending) (c.process_of_thread-p.ensures files) in
    c.common.ensures ∙ (λ i. common ((c.union-pending.ensures ∙ (λ j. union (c.own_pending.ensures files j) (shared j))) i) (c.mask.ensures files i))
