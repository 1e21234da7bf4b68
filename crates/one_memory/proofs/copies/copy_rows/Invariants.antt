use Rattle.mck_word.specs.Maps.{count, entries}
use Rattle.one_memory.proofs.Copied.{IsFilling}
use Rattle.one_memory.proofs.copies.copy_rows.Given as goal
use Rattle.std.specs.Prelude.{drop, vec_len, ◌+◌, ◌≤◌}

-- the entries from the row on are left
abbrev pub invariant-loop-row : goal.invariant-loop-row
invariant-loop-row l = record {
  left : IsFilling (drop l.row-index (entries l.from.map)) l.rows.map l.from.map;
  unused : count l.from.map ≤ vec_len l.unused + l.row-index;
  room : vec_len l.unused ≤ l.rows.spare;
}
