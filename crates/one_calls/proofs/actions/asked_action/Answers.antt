use Rattle.kernel_model.specs.SignalCalls.{action_in}
use Rattle.one_calls.proofs.Pointing.{reads_there}
use Rattle.std.proofs.Common.{Some, ap, ◌∙◌}
use Rattle.std.specs.Prelude.{replicate}
use Rattle.one_calls.proofs.actions.asked_action.Goals as goal

pub returns : goal.returns
returns c =
    ap Some c.action_in.ensures
    ∙ reads_there action_in c.args.memory.now.map c.args.act (replicate 24 0) c.read_into.new.into c.if-act-eq0.false c.requires c.read_into.ensures.read
