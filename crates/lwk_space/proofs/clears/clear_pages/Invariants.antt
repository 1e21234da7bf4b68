use Rattle.hybrid_model.specs.Spaces.{freed}
use Rattle.lwk_space.specs.Rows.{FramesApart, FramesTaken}
use Rattle.mck_word.specs.Maps.{count}
use Rattle.std.specs.Prelude.{◌≡◌}
use Rattle.lwk_space.proofs.clears.clear_pages.Given as goal

-- the rows that are left come free yet
abbrev pub invariant-loop-page : goal.invariant-loop-page
invariant-loop-page g l = record {
  left : freed (g.T.PageTable.rows l.table) l.pool.free ≡ freed (g.T.PageTable.rows l.fn.table) l.fn.pool.free;
  taken : FramesTaken (g.T.PageTable.rows l.table) l.pool;
  apart : FramesApart (g.T.PageTable.rows l.table);
  pool : l.pool.frames ≡ l.fn.pool.frames;
}

abbrev pub decreases-loop-page : goal.decreases-loop-page
decreases-loop-page g l = count (g.T.PageTable.rows l.table)
