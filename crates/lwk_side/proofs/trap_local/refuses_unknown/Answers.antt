use Rattle.file_model.specs.Errno.{ENOSYS}
use Rattle.kernel_model.specs.Nodes.{answered}
use Rattle.lwk_side.proofs.trap_local.refuses_unknown.Goals as goal
use Rattle.lwk_views.proofs.Doing.{did_alone}
use Rattle.mck_word.specs.Words.{refused}

pub returns : goal.returns
returns c = did_alone c.args.node.now c.answered.new.self (answered c.args.t.0 (refused ENOSYS)) c.answered.ensures.node
