use Rattle.std.proofs.Common.{◌≤◌, ◌-◌, length}
use Rattle.key_rows.proofs.Runs.{run}
use Rattle.key_rows.proofs.run_of.Given as goal

abbrev pub invariant-loop-low : goal.invariant-loop-low
invariant-loop-low g l = (l.low ≤ run 0 l.rows) × (run 0 l.rows ≤ l.high) × (l.high ≤ length l.rows)

abbrev pub decreases-loop-low : goal.decreases-loop-low
decreases-loop-low g l = l.high - l.low
