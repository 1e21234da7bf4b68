use Rattle.std.proofs.Common.{◌≡◌, ◌+◌, ◌++◌, length}
use Rattle.job_text.specs.Order.{files_from}
use Rattle.job_text.proofs.order.files_of.Given as goal

abbrev pub invariant-loop-file : goal.invariant-loop-file
invariant-loop-file l = record {
  value : l.sources ++ files_from l.place l.rest ≡ files_from 0 l.files;
  place : l.place + length l.rest ≡ length l.files;
}

abbrev pub decreases-loop-file : goal.decreases-loop-file
decreases-loop-file l = length l.rest
