use Rattle.std.proofs.Common.{◌≡◌, ◌-◌, length}
use Rattle.one_files.specs.Named.{is_kth, names_by_number}
use Rattle.std.specs.Prelude.{drop, find}
use Rattle.one_files.proofs.names.kth_name.Given as goal

abbrev pub invariant-loop-i : goal.invariant-loop-i
invariant-loop-i l = find (is_kth l.rows l.directory l.k) (names_by_number l.rows l.directory) ≡ find (is_kth l.rows l.directory l.k) (names_by_number (drop l.i l.rows) l.directory)

abbrev pub decreases-loop-i : goal.decreases-loop-i
decreases-loop-i l = length l.rows - l.i
