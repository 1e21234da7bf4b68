use Rattle.kernel_model.specs.SignalCalls.{action_in}
use Rattle.lwk_calls.proofs.Pointing.{reads_there}
use Rattle.lwk_space.specs.Lacks.{memory}
use Rattle.std.proofs.Common.{Some, ap, ◌∙◌}
use Rattle.std.specs.Prelude.{replicate}
use Rattle.lwk_calls.proofs.actions.asked_action.Goals as goal

pub returns : goal.returns
returns g c =
    ap Some c.action_in.ensures
    ∙ reads_there action_in (memory (g.T.PageTable.rows c.args.space.now.table) c.args.mem.now) c.args.act (replicate 24 0) c.read_into.new.into c.if-act-eq0.false c.requires.may c.read_into.ensures.read
