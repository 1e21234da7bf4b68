use Rattle.kernel_model.specs.OneKernel.{with_line}
use Rattle.job_boot.proofs.files.add_files.Given as goal
use Rattle.std.proofs.Common.{fold, length, ◌≡◌}

-- the lines that are left
abbrev pub invariant-loop-line : goal.invariant-loop-line
invariant-loop-line g l = fold with_line (g.F.FileStore.files l.files) l.rest ≡ fold with_line (g.F.FileStore.files l.fn.files) l.lines

abbrev pub decreases-loop-line : goal.decreases-loop-line
decreases-loop-line g l = length l.rest
