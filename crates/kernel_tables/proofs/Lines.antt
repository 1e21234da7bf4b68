-- The unsent lines that a node shows.
use Rattle.file_model.specs.Files.{Files}
use Rattle.kernel_model.specs.Nodes.{Node as KernelNode, ScriptLine as KernelLine}
use Rattle.kernel_model.specs.Traps.{line_is, line_of}
use Rattle.futex_queues.proofs.Queues.{filter-map}
use Rattle.kernel_tables.specs.Steps.{without_line}
use Rattle.lwk_threads.specs.Shown.{shown_threads}
use Rattle.mck_word.specs.Maps.{each}
use Rattle.kernel_model.specs.declared.Does.{Does}
use Rattle.kernel_tables.specs.Shown.{node_of, shown_line, shown_process}
use Rattle.kernel_tables.specs.declared.tables.KernelTables.{KernelTables}
use Rattle.kernel_tables.specs.declared.script_lines.ScriptLine.{ScriptLine}
use Rattle.std.proofs.Common.{ap, not, refl, sym, ◌∙◌}
use Rattle.std.specs.Prelude.{Bool, List, Some, [], cond, false, filter, find, map, option_map, true, ℕ, ◌==◌, ◌∷◌, ◌≡◌}

found-shown : (k : ℕ) (xs : List ScriptLine) → find (line_is k) (map shown_line xs) ≡ option_map shown_line (find (λ (x : ScriptLine). x.index == k) xs)
found-shown k [] = refl
found-shown k (x ∷ xs) = go (x.index == k) (found-shown k xs)
  where
    go : (b : Bool) → find (line_is k) (map shown_line xs) ≡ option_map shown_line (find (λ (x : ScriptLine). x.index == k) xs)
        → cond b (Some (shown_line x)) (find (line_is k) (map shown_line xs)) ≡ option_map shown_line (cond b (Some x) (find (λ (x : ScriptLine). x.index == k) xs))
    go true e = refl
    go false e = e

pub line_found : (n : KernelTables) (files : Files) (k : ℕ) → line_of (node_of n files) k ≡ option_map shown_line (find (λ (x : ScriptLine). x.index == k) n.unsent.items)
unfolding node_of
line_found n files k = found-shown k n.unsent.items

-- other lines beside the same tables
pub unsent_are : (n later : KernelTables) (files : Files) (k : ℕ) → later.unsent.items ≡ filter (λ (x : ScriptLine). not (x.index == k)) n.unsent.items
    → record (node_of n files) { unsent = [] } ≡ record (node_of later files) { unsent = [] } → node_of later files ≡ without_line k (node_of n files)
unfolding node_of
unsent_are n later files k e same =
    ap (λ (xs : List KernelLine). record (node_of later files) { unsent = xs }) (ap (map shown_line) e ∙ sym (filter-map shown_line (λ x. not (line_is k x)) n.unsent.items))
    ∙ ap (λ (m : KernelNode). record m { unsent = filter (λ x. not (line_is k x)) (map shown_line n.unsent.items) }) (sym same)

-- and the rest of the node stays
pub rest_stays : (n later : KernelTables) (files : Files) → n.processes ≡ later.processes → n.threads ≡ later.threads → n.sleepers ≡ later.sleepers → n.frame_count ≡ later.frame_count → n.limit ≡ later.limit
    → record (node_of n files) { unsent = [] } ≡ record (node_of later files) { unsent = [] }
unfolding node_of
rest_stays n later files p t s f l = λ i. record {
  processes = each shown_process (p i).map;
  threads = shown_threads (λ (d : Does). d) (t i).threads;
  sleepers = (s i).list;
  files = files;
  unsent = [];
  next_number = (t i).threads.next;
  frame_count = f i;
  limit = l i;
}
