-- How many processes a node shows.
use Rattle.file_model.specs.Files.{Files}
use Rattle.kernel_model.specs.Nodes.{Process as KernelProcess}
use Rattle.kernel_tables.specs.Shown.{node_of, shown_process}
use Rattle.kernel_tables.specs.declared.process_rows.Process.{Process}
use Rattle.kernel_tables.specs.declared.tables.KernelTables.{KernelTables}
use Rattle.lwk_threads.proofs.Showing.{entries-each, pair_of}
use Rattle.mck_word.specs.Maps.{Map, count, each, entries}
use Rattle.std.proofs.Common.{ap, sym, ◌∙◌}
use Rattle.std.proofs.lemmas.List.{length-map}
use Rattle.std.specs.FinMap as finmap
use Rattle.std.specs.Prelude.{List, length, ℕ, ◌≡◌}

count-each : (m : Map Process) → count (each shown_process m) ≡ count m
count-each m =
    finmap.len-entries (each shown_process m) ∙ ap (λ (es : List (ℕ × KernelProcess)). length es) (entries-each shown_process m)
    ∙ length-map (entries m) (pair_of shown_process) ∙ sym (finmap.len-entries m)

pub count_shown : (n : KernelTables) (files : Files) → count (node_of n files).processes ≡ count n.processes.map
unfolding node_of
count_shown n files = count-each n.processes.map
