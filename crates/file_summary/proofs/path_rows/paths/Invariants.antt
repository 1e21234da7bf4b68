use Rattle.file_summary.proofs.path_rows.paths.Given as goal
use Rattle.file_summary.specs.Rows.{rows_of}
use Rattle.mck_word.specs.Maps.{count, keys}
use Rattle.std.specs.Prelude.{drop, ◌≡◌, ◌≤◌}

abbrev pub invariant-nodes : goal.invariant-nodes
invariant-nodes g l = record {
  within : l.left ≤ count (g.F.FileStore.files l.files).nodes;
  rows : l.rows.items ≡ rows_of (g.F.FileStore.files l.files) (drop l.left (keys (g.F.FileStore.files l.files).nodes));
}

abbrev pub decreases-nodes : goal.decreases-nodes
decreases-nodes g l = l.left
