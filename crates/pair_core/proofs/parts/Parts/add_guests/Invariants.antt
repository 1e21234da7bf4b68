use Rattle.hybrid_model.specs.Boot.{shortage_from}
use Rattle.job_model.specs.Images.{IsImage}
use Rattle.job_model.specs.Prepared.{HasArguments}
use Rattle.kernel_model.specs.OneKernel.{guests_from}
use Rattle.pair_core.proofs.parts.Parts.add_guests.Given as goal
use Rattle.pair_core.specs.Booting.{IsBefore, pair_with}
use Rattle.pair_core.specs.Kept.{Kept}
use Rattle.pair_core.specs.Shown.{pair_of}
use Rattle.std.proofs.Common.{All, fold, length, ◌+◌, ◌≡◌, ◌≤◌}

-- the guests that are left
abbrev pub invariant-loop-line : goal.invariant-loop-line
invariant-loop-line g l = record {
  state : fold pair_with (pair_of g.T.PageTable.rows g.F.FileStore.files l.self) (guests_from l.number l.rest l.left) ≡ fold pair_with (pair_of g.T.PageTable.rows g.F.FileStore.files l.fn.self) (guests_from 1 l.lines l.images);
  frames : shortage_from (length l.self.lwk.pool.free) (guests_from l.number l.rest l.left) ≡ shortage_from (length l.fn.self.lwk.pool.free) (guests_from 1 l.lines l.images);
  kept : Kept l.self;
  workers : l.self.workers ≤ 4;
  before : IsBefore l.number (pair_of g.T.PageTable.rows g.F.FileStore.files l.self).node;
  most : l.number + length l.rest ≤ 17;
  arguments : All HasArguments l.rest;
  images : All IsImage l.left;
}

abbrev pub decreases-loop-line : goal.decreases-loop-line
decreases-loop-line g l = length l.rest
