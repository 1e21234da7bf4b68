use Rattle.std.proofs.Common.{length}
use Rattle.call_phases.proofs.vectors.+number.Given as goal

abbrev pub decreases-number : goal.decreases-number
decreases-number l = length l.bytes.now
