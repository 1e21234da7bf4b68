use Rattle.ihk_parts.proofs.Turned.{moved_on}
use Rattle.ihk_parts.proofs.walker.turns_move_on.Goals as goal
use Rattle.std.proofs.Common.{◌==◌}

pub returns : goal.returns
returns c order w x = moved_on order w x (order == 0)
