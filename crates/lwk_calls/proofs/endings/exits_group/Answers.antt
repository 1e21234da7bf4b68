use Rattle.kernel_model.specs.Nodes.{Node as KernelNode, change_process, dies, set_does, thread_of}
use Rattle.kernel_model.specs.declared.Does.TheVariants.{Ready}
use Rattle.lwk_views.proofs.Doing.{did_alone}
use Rattle.mck_word.specs.declared.End.TheVariants.{Exit}
use Rattle.lwk_calls.proofs.endings.exits_group.Goals as goal

pub returns-clause-did : goal.returns-clause-did
returns-clause-did c =
    let t = c.args.t.0 in
    did_alone c.args.node.now c.exits_group.new.self (λ (k : KernelNode). change_process (thread_of k t).process (dies (Exit c.args.code)) (set_does t Ready k)) c.exits_group.ensures.node
