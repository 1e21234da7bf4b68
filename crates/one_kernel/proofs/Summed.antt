-- What is summed up of the rows is what is summed up of the state that they show.
use Rattle.kernel_tables.specs.Shown.{shown_line, shown_process}
use Rattle.kernel_tables.specs.declared.process_rows.Process.{Process}
use Rattle.kernel_tables.specs.declared.script_lines.ScriptLine.{ScriptLine as LineRow}
use Rattle.lwk_threads.proofs.Showing.{entries-each, pair_of as shown_pair}
use Rattle.mck_word.specs.Maps.{Map, each, entries}
use Rattle.one_kernel.specs.Summed.{end_at}
use Rattle.run_summary.specs.Summaries.{line_number, process_end}
use Rattle.run_summary.specs.declared.ProcessEnd.{ProcessEnd}
use Rattle.std.proofs.Common.{ap, append-nil, append_assoc, arith, refl, sym, ◌∙◌}
use Rattle.std.specs.Prelude.{List, [], length, map, ℕ, ◌++◌, ◌∷◌, ◌≡◌}

each-end : (es : List (ℕ × Process)) → map end_at es ≡ map process_end (map (shown_pair shown_process) es)
each-end [] = refl
each-end (e ∷ es) = ap (λ ends. end_at e ∷ ends) (each-end es)

pub ends-are : (m : Map Process) → map end_at (entries m) ≡ map process_end (entries (each shown_process m))
ends-are m = each-end (entries m) ∙ ap (map process_end) (sym (entries-each shown_process m))

-- one process more, and none
pub ends-more : (done made : List ProcessEnd) (rest more : List (ℕ × Process)) (e : ℕ × Process) → rest ≡ e ∷ more → made ≡ done ++ end_at e ∷ [] → made ++ map end_at more ≡ done ++ map end_at rest
ends-more done made rest more e split pushed =
    ap (λ ends. ends ++ map end_at more) pushed ∙ (append_assoc done (end_at e ∷ []) (map end_at more) ∙ sym (ap (λ es. done ++ map end_at es) split))

pub ends-all : (done : List ProcessEnd) (rest : List (ℕ × Process)) → length rest ≡ 0 → done ≡ done ++ map end_at rest
ends-all done [] e = sym (append-nil done)
ends-all done (x ∷ rest) e = absurd (omega (arith, e))

pub lines-are : (ls : List LineRow) → map (λ (l : LineRow). l.line) ls ≡ map line_number (map shown_line ls)
lines-are [] = refl
lines-are (l ∷ ls) = ap (λ ns. l.line ∷ ns) (lines-are ls)
