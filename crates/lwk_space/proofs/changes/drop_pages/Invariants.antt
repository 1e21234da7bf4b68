use Rattle.hybrid_model.specs.Spaces.{drop_page}
use Rattle.kernel_model.specs.Spaces.{each_in, each_page}
use Rattle.lwk_space.specs.Frames.{space}
use Rattle.lwk_space.specs.Rows.{FramesApart, FramesTaken}
use Rattle.mck_word.specs.Maps.{at}
use Rattle.mck_word.specs.declared.PageRange.{PageRange}
use Rattle.std.specs.Prelude.{List, is_some, nat_le, nat_lt, not, ℕ, ◌&&◌, ◌-◌, ◌≡◌, ◌≤◌}
use Rattle.lwk_space.proofs.changes.drop_pages.Given as goal

-- the pages from `from` on are left
abbrev pub invariant-loop-page : goal.invariant-loop-page
invariant-loop-page g l = record {
  low : l.r.lo ≤ l.from;
  high : l.from ≤ l.r.hi;
  left : (pages : List (List ℕ)) → each_page drop_page (l.r.hi - l.from) l.from (space (g.T.PageTable.rows l.table) pages l.pool) ≡ each_in drop_page l.r (space (g.T.PageTable.rows l.fn.table) pages l.fn.pool);
  taken : FramesTaken (g.T.PageTable.rows l.table) l.pool;
  apart : FramesApart (g.T.PageTable.rows l.table);
  pool : l.pool.frames ≡ l.fn.pool.frames;
  keeps : (rs : List PageRange) → g.T.PageTable.has_room l.fn.table rs → g.T.PageTable.has_room l.table rs;
  pages : (p : ℕ) → is_some (at (g.T.PageTable.rows l.table) p) ≡ (is_some (at (g.T.PageTable.rows l.fn.table) p) && not (nat_le l.r.lo p && nat_lt p l.from));
}

abbrev pub decreases-loop-page : goal.decreases-loop-page
decreases-loop-page g l = l.r.hi - l.from
