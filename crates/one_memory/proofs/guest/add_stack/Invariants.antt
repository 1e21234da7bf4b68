use Rattle.mck_word.specs.Lists.{count_from}
use Rattle.one_memory.proofs.GuestPages.{stack_page, with_pages}
use Rattle.std.proofs.Common.{◌≡◌, ◌+◌, ◌-◌}
use Rattle.one_memory.proofs.guest.add_stack.Given as goal

-- the pages from `page` on are left
abbrev pub invariant-loop-page : goal.invariant-loop-page
invariant-loop-page l = record {
  left : with_pages stack_page l.memory.map (count_from l.page (0x3ffffff - l.page)) ≡ with_pages stack_page l.fn.memory.map (count_from 0x3ffffef 16);
  spare : l.memory.spare + (l.page - 0x3ffffef) ≡ l.fn.memory.spare;
}
