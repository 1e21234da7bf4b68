use Rattle.std.proofs.Common.{◌≡◌, ◌+◌, ◌-◌, ◌≤◌, ◌^◌, length}
use Rattle.std.specs.Prelude.{drop, min, sum_by}
use Rattle.one_files.proofs.names.all_bytes.Given as goal

abbrev pub invariant-loop-i : goal.invariant-loop-i
invariant-loop-i l = (l.total ≤ 2 ^ 64 - 1) × (min (sum_by (λ e. length e.1.bytes) l.rows) (2 ^ 64 - 1) ≡ min (l.total + sum_by (λ e. length e.1.bytes) (drop l.i l.rows)) (2 ^ 64 - 1))

abbrev pub decreases-loop-i : goal.decreases-loop-i
decreases-loop-i l = length l.rows - l.i
