use Rattle.std.proofs.Common.{◌≡◌, ◌+◌, ◌++◌, length}
use Rattle.job_text.specs.Order.{by_line}
use Rattle.job_text.proofs.order.by_line.Given as goal

abbrev pub invariant-loop-first : goal.invariant-loop-first
invariant-loop-first l = l.sources ++ by_line l.left l.right ≡ by_line l.firsts l.seconds

abbrev pub decreases-loop-first : goal.decreases-loop-first
decreases-loop-first l = length l.left + length l.right

abbrev pub invariant-loop-second : goal.invariant-loop-second
invariant-loop-second l = l.sources ++ l.right ≡ by_line l.firsts l.seconds

abbrev pub decreases-loop-second : goal.decreases-loop-second
decreases-loop-second l = length l.right
