use Rattle.kernel_model.specs.Pages.{pages_in}
use Rattle.mck_word.specs.Lists.{count_from}
use Rattle.one_memory.proofs.GuestPages.{content, with_pages}
use Rattle.std.proofs.Common.{◌≡◌, ◌-◌, ◌≤◌}
use Rattle.one_memory.proofs.guest.add_pages.Given as goal

-- the pages from `page` on are left
abbrev pub invariant-loop-page : goal.invariant-loop-page
invariant-loop-page l = record {
  left : with_pages (content l.s) l.memory.map (count_from l.page (l.r.hi - l.page)) ≡ with_pages (content l.s) l.fn.memory.map (pages_in l.r);
  room : l.r.hi - l.page ≤ l.memory.spare;
}
