use Rattle.std.proofs.Common.{◌≡◌, length}
use Rattle.job_text.specs.Paths.{goes_through}
use Rattle.job_text.proofs.paths.goes_through.Given as goal

abbrev pub invariant-loop-b : goal.invariant-loop-b
invariant-loop-b l = goes_through l.rest l.left ≡ goes_through l.text l.other

abbrev pub decreases-loop-b : goal.decreases-loop-b
decreases-loop-b l = length l.left
