use Rattle.kernel_model.specs.LocalCalls.{dies_without_threads}
use Rattle.kernel_model.specs.Nodes.{without_thread}
use Rattle.lwk_calls.specs.Words.{of_process}
use Rattle.std.proofs.Common.{ap, refl, ◌∙◌}
use Rattle.lwk_calls.proofs.endings.leaves.Goals as goal

pub returns-clause-is : goal.returns-clause-is
returns-clause-is c = λ files.
    let t = c.args.t.0 in
    let p = c.args.p.0 in
    c.dies_without_threads.ensures.node files
    ∙ ap (dies_without_threads p) (c.without_thread.ensures.node files ∙ ap (without_thread t) (c.note_first_code.ensures.node files (of_process p) refl))
