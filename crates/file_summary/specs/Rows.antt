-- The rows of nodes and of consoles, by their numbers.
use Rattle.file_model.specs.Files.{Files, console_of, node_of}
use Rattle.file_model.specs.Paths.{bytes_before, path_of}
use Rattle.file_model.specs.declared.operations.PathRow.{PathRow}
use Rattle.mck_word.specs.Identifiers.{pid}
use Rattle.mck_word.specs.Lists.{insert_by, sorted_by}
use Rattle.run_model.specs.Reports.{PathEntry}
use Rattle.run_summary.specs.Summaries.{path_row}
use Rattle.run_summary.specs.declared.Output.{Output}
use Rattle.std.specs.Prelude.{Bool, List, None, Option, Some, cond, filter, is_some, map, ℕ}

-- ---- paths

-- a node with its path
abbrev pub entry_of : Files → ℕ → PathEntry
entry_of files n = record { text = path_of files n; node = node_of files n }

abbrev pub row_of : Files → ℕ → PathRow
row_of files n = path_row (entry_of files n)

abbrev pub row_before : PathRow → PathRow → Bool
row_before a b = bytes_before a.path b.path

abbrev pub has_name : Files → ℕ → Bool
has_name files n = is_some (node_of files n).name

-- the rows of those of the nodes that have names, in the order of their paths
abbrev pub rows_of : Files → List ℕ → List PathRow
rows_of files ns = sorted_by row_before (map (row_of files) (filter (has_name files) ns))

-- one more node, where there is one
abbrev pub with_node : Files → Option ℕ → List PathRow → List PathRow
with_node files None rows = rows
with_node files (Some n) rows = cond (has_name files n) (insert_by row_before (row_of files n) rows) rows

-- ---- consoles

abbrev pub output_at : Files → ℕ → Output
output_at files guest = record { pid = pid guest; bytes = (console_of files guest).output }
