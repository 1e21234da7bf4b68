use Rattle.hybrid_model.specs.Sides.{Row}
use Rattle.hybrid_model.specs.Spaces.{copied_pages}
use Rattle.lwk_space.proofs.copies.copy_pages.Given as goal
use Rattle.lwk_space.specs.Copies.{RoomForRows, from_on}
use Rattle.lwk_space.specs.Frames.{space}
use Rattle.lwk_space.specs.Lacks.{memory}
use Rattle.lwk_space.specs.Rows.{FramesIn, FramesTaken}
use Rattle.mck_word.specs.Maps.{at, count, entries, no_rows}
use Rattle.std.specs.Prelude.{Some, [], is_some, length, nat_lt, slice_index_or, ℕ, ◌&&◌, ◌-◌, ◌^◌, ◌≡◌, ◌≤◌}

-- the pages from `low` on are left
abbrev pub invariant-loop-page : goal.invariant-loop-page
invariant-loop-page g l = record {
  left : copied_pages (entries (from_on l.low (memory (g.T.PageTable.rows l.from) l.fn.mem))) (space (g.T.PageTable.rows l.table) l.mem l.pool)
      ≡ copied_pages (entries (memory (g.T.PageTable.rows l.from) l.fn.mem)) (space no_rows l.fn.mem l.fn.pool);
  kept : (k : ℕ) (w : Row) → at (g.T.PageTable.rows l.from) k ≡ Some w → slice_index_or l.mem w.0.0 [] ≡ slice_index_or l.fn.mem w.0.0 [];
  taken : FramesTaken (g.T.PageTable.rows l.from) l.pool;
  enough : count (from_on l.low (g.T.PageTable.rows l.from)) ≤ length l.pool.free;
  room : RoomForRows (g.T.PageTable.has_room l.table) (g.T.PageTable.rows l.from);
  pages : (p : ℕ) → is_some (at (g.T.PageTable.rows l.table) p) ≡ (is_some (at (g.T.PageTable.rows l.from) p) && nat_lt p l.low);
  inside : FramesIn (g.T.PageTable.rows l.table) l.mem;
  pool : l.pool.frames ≡ l.fn.pool.frames;
  mem : length l.mem ≡ length l.fn.mem;
}

abbrev pub decreases-loop-page : goal.decreases-loop-page
decreases-loop-page g l = 2 ^ 27 - l.low
