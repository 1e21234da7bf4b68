use Rattle.lwk_space.proofs.WrittenBack.{written-back}
use Rattle.lwk_space.proofs.laws.stores_are_written_back.Goals as goal

pub returns : goal.returns
returns c = written-back
