use Rattle.lwk_space.proofs.copies.count_rows.Given as goal
use Rattle.lwk_space.specs.Copies.{from_on}
use Rattle.mck_word.specs.Maps.{count}
use Rattle.std.specs.Prelude.{◌+◌, ◌-◌, ◌^◌, ◌≡◌, ◌≤◌}

-- the pages from `from` on are left
abbrev pub invariant-loop-page : goal.invariant-loop-page
invariant-loop-page g l = record {
  counted : l.pages + count (from_on l.from (g.T.PageTable.rows l.table)) ≡ count (g.T.PageTable.rows l.table);
  few : l.pages ≤ l.from;
}

abbrev pub decreases-loop-page : goal.decreases-loop-page
decreases-loop-page g l = 2 ^ 27 - l.from
