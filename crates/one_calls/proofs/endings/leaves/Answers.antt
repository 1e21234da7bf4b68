use Rattle.kernel_model.specs.LocalCalls.{dies_without_threads}
use Rattle.kernel_model.specs.Nodes.{without_thread}
use Rattle.one_calls.specs.Words.{of_process}
use Rattle.std.proofs.Common.{ap, refl, ◌∙◌}
use Rattle.one_calls.proofs.endings.leaves.Goals as goal

pub returns : goal.returns
returns c = λ files.
    let t = c.args.t.0 in
    let p = c.args.p.0 in
    c.dies_without_threads.ensures.node files
    ∙ ap (dies_without_threads p) (c.without_thread.ensures.node files ∙ ap (without_thread t) (c.note_first_code.ensures.node files (of_process p) refl))
