use Rattle.lwk_side.proofs.Slotted.{empty-slots}
use Rattle.lwk_side.proofs.kernel.Last.new.Goals as goal

pub returns : goal.returns
returns c = empty-slots 8
