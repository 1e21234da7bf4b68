use Rattle.kernel_model.specs.Spaces.{drop_page, each_in, each_page}
use Rattle.mck_word.specs.Maps.{count}
use Rattle.one_memory.specs.Changing.{spaced}
use Rattle.one_memory.specs.Pages.{AreLow}
use Rattle.std.proofs.Common.{ℕ, ◌+◌, ◌-◌, ◌≡◌, ◌≤◌}
use Rattle.one_memory.proofs.changes.drop_pages.Given as goal

-- the pages from `from` on are left
abbrev pub invariant-loop-page : goal.invariant-loop-page
invariant-loop-page l = record {
  few : l.dropped + l.r.lo ≤ l.from;
  left : (free : ℕ) → each_page drop_page (l.r.hi - l.from) l.from (spaced l.rows.map (free + l.dropped)) ≡ each_in drop_page l.r (spaced l.fn.rows.map free);
  fewer : l.dropped + count l.rows.map ≡ count l.fn.rows.map;
  room : l.fn.rows.spare ≤ l.rows.spare;
  low : AreLow l.rows.map;
}

abbrev pub decreases-loop-page : goal.decreases-loop-page
decreases-loop-page l = l.r.hi - l.from
