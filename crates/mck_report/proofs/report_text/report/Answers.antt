use Rattle.std.proofs.Common.{[], ap, codes, flat_map, map, ◌++◌, ◌∙◌, ◌∷◌}
use Rattle.run_model.specs.Reports.{ending_line}
use Rattle.run_model.specs.Texts.{Line, Number, Text, part_bytes}
use Rattle.run_summary.specs.Summaries.{end_line, output_parts, path_parts, summary_counts, unsent_part}
use Rattle.mck_report.proofs.Lines.{line_then, parts_then}
use Rattle.mck_report.proofs.report_text.report.Goals as goal

pub returns : goal.returns
returns c =
    let s = c.args.summary.now in
    let ends = map end_line s.ends in
    let outputs = flat_map output_parts s.outputs in
    let paths = flat_map path_parts s.paths in
    let unsent = map unsent_part s.unsent in
    let counts = summary_counts s c.args.requests c.args.journal.now in
    line_then [] _ _ (Line (Text (codes "mcreport") ∷ Number 1 ∷ [])) (ending_line c.args.ending ∷ ends ++ outputs ++ paths ++ unsent ++ counts)
    (c.in_ok-add_line.ensures ∙ ap (λ t. t ++ part_bytes (Line (Text (codes "mcreport") ∷ Number 1 ∷ []))) c.new-text.ensures)
    (line_then _ _ _ (ending_line c.args.ending) (ends ++ outputs ++ paths ++ unsent ++ counts) c.in_ok-add_ending.ensures
    (parts_then _ _ _ (ends ++ outputs ++ paths ++ unsent) counts
    (parts_then _ _ _ (ends ++ outputs ++ paths) unsent
    (parts_then _ _ _ (ends ++ outputs) paths
    (parts_then _ _ _ ends outputs (rw c.as_slice.ensures at c.in_ok-add_processes.ensures) (rw c.as_slice-2.ensures at c.in_ok-add_outputs.ensures))
    (rw c.as_slice-3.ensures at c.in_ok-add_paths.ensures)) (rw c.as_slice-4.ensures at c.in_ok-add_unsent.ensures)) c.in_ok-add_counts.ensures))
