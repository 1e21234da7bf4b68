use Rattle.std.proofs.Common.{arith, sym}
use Rattle.lwk_signals.proofs.SetBits.{lowest-trailing}
use Rattle.lwk_signals.proofs.sets.lowest.Goals as goal

pub returns-else-word-eq0 : goal.returns-else-word-eq0
returns-else-word-eq0 c = sym (lowest-trailing c.args.set.0 (omega arith) (omega arith))
