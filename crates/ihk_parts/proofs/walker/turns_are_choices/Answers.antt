use Rattle.ihk_parts.proofs.Turned.{choice}
use Rattle.ihk_parts.proofs.walker.turns_are_choices.Goals as goal
use Rattle.std.proofs.Common.{◌==◌}

pub returns : goal.returns
returns c order w = choice order w (order == 0)
