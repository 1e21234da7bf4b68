use Rattle.std.proofs.Common.{◌≤◌, ◌-◌, length}
use Rattle.key_rows.specs.Places.{place}
use Rattle.one_memory.proofs.ranges.place_of.Given as goal

abbrev pub invariant-loop-low : goal.invariant-loop-low
invariant-loop-low l = (l.low ≤ place l.end l.rows) × (place l.end l.rows ≤ l.high) × (l.high ≤ length l.rows)

abbrev pub decreases-loop-low : goal.decreases-loop-low
decreases-loop-low l = l.high - l.low
