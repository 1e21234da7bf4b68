use Rattle.job_model.specs.Images.{IsImage}
use Rattle.job_model.specs.Prepared.{HasArguments}
use Rattle.kernel_model.specs.OneKernel.{guests_from}
use Rattle.job_boot.specs.Guests.{IsBefore}
use Rattle.one_kernel.specs.Booting.{one_with}
use Rattle.one_kernel.specs.Parts.{one_of}
use Rattle.std.proofs.Common.{All, fold, length, ◌+◌, ◌≡◌, ◌≤◌}
use Rattle.one_kernel.proofs.parts.One.add_guests.Given as goal

-- the guests that are left
abbrev pub invariant-loop-line : goal.invariant-loop-line
invariant-loop-line l = record {
  state : fold one_with (one_of l.self) (guests_from l.number l.rest l.left) ≡ fold one_with (one_of l.fn.self) (guests_from 1 l.lines l.images);
  before : IsBefore l.number (one_of l.self).node;
  most : l.number + length l.rest ≤ 17;
  arguments : All HasArguments l.rest;
  images : All IsImage l.left;
}

abbrev pub decreases-loop-line : goal.decreases-loop-line
decreases-loop-line l = length l.rest
