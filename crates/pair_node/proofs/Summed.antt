-- What is summed up of the processes that the parts show.
use Rattle.file_model.specs.Files.{Files}
use Rattle.file_summary.proofs.ByKey.{entries-by-key}
use Rattle.hybrid_model.specs.Globals.{Coherent}
use Rattle.hybrid_model.specs.Pairs.{Pair}
use Rattle.hybrid_model.specs.Sides.{Row, Side as SideOf}
use Rattle.kernel_model.specs.Nodes.{Node, Process, no_process, process_of}
use Rattle.kernel_tables.specs.Shown.{shown_line}
use Rattle.kernel_tables.specs.declared.script_lines.ScriptLine.{ScriptLine as LineRow}
use Rattle.lwk_threads.proofs.Showing.{entries-each, pair_of as shown_pair}
use Rattle.mck_word.specs.Maps.{Map, entries, keys}
use Rattle.mck_word.specs.declared.Pid.{Pid}
use Rattle.offer_laws.specs.Small.{Small}
use Rattle.pair_core.specs.Shown.{pair_of, shown_side}
use Rattle.pair_core.specs.declared.parts.Parts.{Parts}
use Rattle.pair_node.specs.Summed.{end_at, numbered_in}
use Rattle.run_model.specs.Reports.{requests}
use Rattle.run_summary.specs.Summaries.{line_number, process_end}
use Rattle.std.proofs.Common.{ap, arith, refl, sym, ◌∙◌}
use Rattle.std.proofs.lemmas.List.Sums.{sum_by-cons}
use Rattle.std.specs.Prelude.{List, [], map, sum_by, ℕ, ◌+◌, ◌-◌, ◌<◌, ◌^◌, ◌≡◌, ◌∷◌}

-- ---- requests

module _ {V W : Type 0} (f : V → W) (n : ℕ × W → ℕ) where
  sum-mapped : (es : List (ℕ × V)) → sum_by n (map (shown_pair f) es) ≡ sum_by (λ (e : ℕ × V). n (e.0, f e.1)) es
  sum-mapped [] = refl
  sum-mapped (e ∷ es) =
      sum_by-cons n (shown_pair f e) (map (shown_pair f) es) ∙ ap (λ k. n (shown_pair f e) + k) (sum-mapped es)
      ∙ sym (sum_by-cons (λ (x : ℕ × V). n (x.0, f x.1)) e es)

pub all-numbered : {T F : Type 0} (rows : T → Map Row) (files : F → Files) (x : Parts T F) → sum_by numbered_in (entries x.sides.map) ≡ requests (pair_of rows files x)
unfolding pair_of
all-numbered rows files x =
    sym (ap (sum_by (λ (e : ℕ × SideOf). e.1.book.next - 1)) (entries-each (shown_side rows) x.sides.map) ∙ sum-mapped (shown_side rows) (λ (e : ℕ × SideOf). e.1.book.next - 1) (entries x.sides.map))

-- each number that was given was paid for by an instruction
pub few-numbered : (pair : Pair) → Coherent pair → Small pair → requests pair < 2 ^ 64
few-numbered pair c s = let a = c.numbers.paid in let b = c.numbers.limit in let d = s.limit in omega (arith, a, b, d)

-- ---- processes
pub ends-are : (node : Node) (pids : List Pid) → map (λ (p : Pid). p.0) pids ≡ keys node.processes → map (end_at node) pids ≡ map process_end (entries node.processes)
ends-are node pids e =
    each-end pids ∙ ap (λ ks. map process_end (map row ks)) e ∙ ap (map process_end) (sym (entries-by-key no_process node.processes))
  where
    row : ℕ → ℕ × Process
    row k = (k, process_of node k)

    each-end : (ps : List Pid) → map (end_at node) ps ≡ map process_end (map row (map (λ (p : Pid). p.0) ps))
    each-end [] = refl
    each-end (p ∷ ps) = ap (λ ends. end_at node p ∷ ends) (each-end ps)

-- ---- the script
pub lines-are : (ls : List LineRow) → map (λ (l : LineRow). l.line) ls ≡ map line_number (map shown_line ls)
lines-are [] = refl
lines-are (l ∷ ls) = ap (λ ns. l.line ∷ ns) (lines-are ls)
