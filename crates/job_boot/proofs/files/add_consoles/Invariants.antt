use Rattle.kernel_model.specs.OneKernel.{with_consoles}
use Rattle.mck_word.specs.Lists.{count_from}
use Rattle.job_boot.proofs.Descriptors.{NoneFrom}
use Rattle.job_boot.proofs.files.add_consoles.Given as goal
use Rattle.std.proofs.Common.{length, ◌+◌, ◌≡◌, ◌≤◌}

-- the guests that are left
abbrev pub invariant-loop-more : goal.invariant-loop-more
invariant-loop-more g l = record {
  left : with_consoles l.job (count_from l.guest (length l.rest)) (g.F.FileStore.files l.files) ≡ with_consoles l.job (count_from 1 (length l.job.guests)) (g.F.FileStore.files l.fn.files);
  none : NoneFrom l.guest (g.F.FileStore.files l.files).descriptors;
  few : l.guest + length l.rest ≤ 17;
}

abbrev pub decreases-loop-more : goal.decreases-loop-more
decreases-loop-more g l = length l.rest
