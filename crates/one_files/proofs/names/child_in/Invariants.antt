use Rattle.std.proofs.Common.{◌≡◌, ◌-◌, ℕ, length}
use Rattle.file_model.specs.Files.{Inode}
use Rattle.file_model.specs.Paths.{stands_as}
use Rattle.std.specs.Prelude.{drop, find}
use Rattle.one_files.proofs.names.child_in.Given as goal

abbrev pub invariant-loop-i : goal.invariant-loop-i
invariant-loop-i l = find (λ (e : ℕ × Inode). stands_as l.directory l.name e.1) l.rows ≡ find (λ (e : ℕ × Inode). stands_as l.directory l.name e.1) (drop l.i l.rows)

abbrev pub decreases-loop-i : goal.decreases-loop-i
decreases-loop-i l = length l.rows - l.i
