use Rattle.frame_pool.specs.Pools.{Pool}
use Rattle.hybrid_model.specs.Spaces.{protect_page}
use Rattle.kernel_model.specs.Spaces.{each_in, each_page}
use Rattle.lwk_space.specs.Frames.{space}
use Rattle.mck_word.specs.Maps.{at}
use Rattle.mck_word.specs.declared.PageRange.{PageRange}
use Rattle.std.specs.Prelude.{List, is_some, ℕ, ◌-◌, ◌≡◌}
use Rattle.lwk_space.proofs.changes.protect_pages.Given as goal

abbrev pub invariant-loop-page : goal.invariant-loop-page
invariant-loop-page g l = record {
  left : (pages : List (List ℕ)) (pool : Pool) → each_page (protect_page l.rights) (l.r.hi - l.page) l.page (space (g.T.PageTable.rows l.table) pages pool) ≡ each_in (protect_page l.rights) l.r (space (g.T.PageTable.rows l.fn.table) pages pool);
  keeps : (rs : List PageRange) → g.T.PageTable.has_room l.fn.table rs → g.T.PageTable.has_room l.table rs;
  pages : (p : ℕ) → is_some (at (g.T.PageTable.rows l.table) p) ≡ is_some (at (g.T.PageTable.rows l.fn.table) p);
}
