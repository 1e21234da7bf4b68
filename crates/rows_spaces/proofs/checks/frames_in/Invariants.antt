use Rattle.hybrid_model.specs.Sides.{Row}
use Rattle.mck_word.specs.Maps.{at}
use Rattle.rows_spaces.proofs.checks.frames_in.Given as goal
use Rattle.std.proofs.Common.{Some, length, ℕ, ◌-◌, ◌<◌, ◌^◌, ◌≡◌}

-- the frames of the pages below are in the memory
abbrev pub invariant-loop-page : goal.invariant-loop-page
invariant-loop-page g l = (k : ℕ) (w : Row) → k < l.from → at (g.T.PageTable.rows l.table) k ≡ Some w → w.0.0 < length l.mem

abbrev pub decreases-loop-page : goal.decreases-loop-page
decreases-loop-page g l = 2 ^ 27 - l.from
