use Rattle.kernel_model.specs.Spaces.{each_in, each_page, protect_page}
use Rattle.one_memory.specs.Changing.{spaced}
use Rattle.one_memory.specs.Pages.{AreLow}
use Rattle.std.proofs.Common.{ℕ, ◌-◌, ◌≡◌}
use Rattle.one_memory.proofs.changes.protect_pages.Given as goal

-- the pages from `page` on are left
abbrev pub invariant-loop-page : goal.invariant-loop-page
invariant-loop-page l = record {
  left : (free : ℕ) → each_page (protect_page l.rights) (l.r.hi - l.page) l.page (spaced l.rows.map free) ≡ each_in (protect_page l.rights) l.r (spaced l.fn.rows.map free);
  room : l.rows.spare ≡ l.fn.rows.spare;
  low : AreLow l.rows.map;
}
