use Rattle.kernel_model.specs.Spaces.{add_page, each_in, each_page}
use Rattle.one_memory.specs.Changing.{spaced}
use Rattle.one_memory.specs.Pages.{AreLow}
use Rattle.std.proofs.Common.{vec_len, ℕ, ◌+◌, ◌-◌, ◌≡◌, ◌≤◌}
use Rattle.one_memory.proofs.changes.add_pages.Given as goal

-- the pages from `page` on are left
abbrev pub invariant-loop-page : goal.invariant-loop-page
invariant-loop-page l = record {
  left : (free : ℕ) → each_page (add_page l.rights) (l.r.hi - l.page) l.page (spaced l.rows.map (free - (l.page - l.r.lo))) ≡ each_in (add_page l.rights) l.r (spaced l.fn.rows.map free);
  unused : vec_len l.unused + (l.page - l.r.lo) ≡ vec_len l.fn.unused;
  room : vec_len l.unused ≤ l.rows.spare;
  low : AreLow l.rows.map;
}
