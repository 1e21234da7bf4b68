use Rattle.kernel_model.specs.Nodes.{process_of}
use Rattle.kernel_model.specs.Signals.{next_of_sets}
use Rattle.kernel_tables.specs.Shown.{node_of}
use Rattle.std.proofs.Common.{ap, ◌∙◌}
use Rattle.kernel_tables.proofs.tables.KernelTables.next_signal.Goals as goal

pub returns-clause-is : goal.returns-clause-is
returns-clause-is c = λ files.
    let shared = c.shared_pending-shared.ensures files ∙ ap (λ p. (process_of (node_of c.args.self.now files) p).pending) (c.sets_of.ensures.process files) in
    c.chosen.ensures.is ∙ (λ i. next_of_sets (c.sets_of.ensures.own files i) (shared i) (c.sets_of.ensures.mask files i))
