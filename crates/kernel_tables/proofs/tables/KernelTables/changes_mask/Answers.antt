use Rattle.kernel_model.specs.Nodes.{Thread as KernelThread, change_thread}
use Rattle.kernel_model.specs.SignalCalls.{new_mask}
use Rattle.kernel_tables.proofs.Twice.{thread_known}
use Rattle.kernel_tables.specs.Shown.{node_of}
use Rattle.std.proofs.Common.{ap, of_z, rules, to_z, w32, ◌≡◌, ◌∙◌}
use Rattle.kernel_tables.proofs.tables.KernelTables.changes_mask.Goals as goal

pub returns-clause-node : goal.returns-clause-node
returns-clause-node c = λ files.
    let node = node_of c.args.self.now files in
    let how = c.args.how in
    let set = c.args.set.0 in
    let given : to_z w32 (of_z w32 how) ≡ how = search rules in
    c.set_mask.ensures.node files
    ∙ ap (λ m. change_thread c.args.t.0 (λ (x : KernelThread). record x { mask = m }) node) (c.new_mask.ensures ∙ (λ i. new_mask (given i) set (c.mask-mask.ensures files i)))
    ∙ thread_known node c.args.t.0 (λ k x. record x { mask = new_mask how set k.mask })
