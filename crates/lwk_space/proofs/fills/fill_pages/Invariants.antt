use Rattle.lwk_space.specs.Fills.{fill_page}
use Rattle.kernel_model.specs.Spaces.{each_in, each_page}
use Rattle.lwk_space.specs.Frames.{space}
use Rattle.lwk_space.specs.Rows.{AbsentIn, LiesIn, RoomFor}
use Rattle.mck_word.specs.Maps.{at}
use Rattle.mck_word.specs.declared.PageRange.{PageRange}
use Rattle.std.specs.Prelude.{List, is_some, length, nat_le, nat_lt, ℕ, ◌&&◌, ◌-◌, ◌||◌, ◌≡◌, ◌≤◌}
use Rattle.lwk_space.proofs.fills.fill_pages.Given as goal

-- the pages from `page` on are left
abbrev pub invariant-loop-page : goal.invariant-loop-page
invariant-loop-page g l = record {
  left : each_page (fill_page l.rights l.start l.bytes) (l.r.hi - l.page) l.page (space (g.T.PageTable.rows l.table) l.mem l.pool) ≡ each_in (fill_page l.rights l.start l.bytes) l.r (space (g.T.PageTable.rows l.fn.table) l.fn.mem l.fn.pool);
  absent : AbsentIn (g.T.PageTable.rows l.table) (record { lo = l.page; hi = l.r.hi });
  enough : l.r.hi - l.page ≤ length l.pool.free;
  pool : l.pool.frames ≡ l.fn.pool.frames;
  mem : length l.mem ≡ length l.fn.mem;
  room : RoomFor (g.T.PageTable.has_room l.table) l.r;
  keeps : (rs : List PageRange) → LiesIn l.r rs → g.T.PageTable.has_room l.fn.table rs → g.T.PageTable.has_room l.table rs;
  pages : (p : ℕ) → is_some (at (g.T.PageTable.rows l.table) p) ≡ (is_some (at (g.T.PageTable.rows l.fn.table) p) || (nat_le l.r.lo p && nat_lt p l.page));
}
