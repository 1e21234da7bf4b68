use Rattle.file_summary.proofs.path_rows.place_of.Given as goal
use Rattle.file_summary.specs.Rows.{row_before}
use Rattle.std.specs.List.{position_or_len}
use Rattle.std.specs.Prelude.{length, ◌+◌, ◌≡◌}

abbrev pub invariant-loop-other : goal.invariant-loop-other
invariant-loop-other l = record {
  place : position_or_len (row_before l.row) l.fn.rows ≡ l.place + position_or_len (row_before l.row) l.rest;
  len : length l.fn.rows ≡ l.place + length l.rest;
}

abbrev pub decreases-loop-other : goal.decreases-loop-other
decreases-loop-other l = length l.rest
