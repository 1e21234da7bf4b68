use Rattle.std.proofs.Common.{◌≡◌, ◌≤◌, ◌-◌, ◌++◌, length, take, drop}
use Rattle.mck_word.specs.Lists.{before_zero}
use Rattle.call_progress.proofs.pieces.zero_at.Given as goal

abbrev pub invariant-loop-i : goal.invariant-loop-i
invariant-loop-i l = (before_zero l.bytes ≡ take l.i l.bytes ++ before_zero (drop l.i l.bytes)) × (l.i ≤ length l.bytes)

abbrev pub decreases-loop-i : goal.decreases-loop-i
decreases-loop-i l = length l.bytes - l.i
