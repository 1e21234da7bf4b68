use Rattle.kernel_model.specs.Nodes.{Process, ScriptLine}
use Rattle.file_model.specs.Files.{Console}
use Rattle.mck_word.specs.Maps.{entries}
use Rattle.run_model.specs.Reports.{count_lines, ending_line, guest_line, output_lines, path_lines, paths_in_order, unsent_line}
use Rattle.run_model.specs.Texts.{Number, Text, Line, Part}
use Rattle.run_summary.specs.Summaries.{end_line, line_number, output_of, output_parts, path_parts, path_row, process_end, unsent_part}
use Rattle.run_summary.proofs.Through.{flat_map-map, guest, map-map, path}
use Rattle.run_summary.proofs.one_report.Goals as goal
use Rattle.std.proofs.Common.{List, codes, refl, [], ◌∷◌, ◌≡◌, flat_map, map, ap, ◌++◌, ℕ}

pub returns : goal.returns
returns c shown ending given journal =
    let ends = map-map guest_line end_line process_end guest (entries shown.node.processes) in
    let outputs = flat_map-map output_lines output_parts output_of (λ e. refl) (entries shown.node.files.consoles) in
    let paths = flat_map-map path_lines path_parts path_row path (paths_in_order shown.node.files) in
    let unsent = map-map unsent_line unsent_part line_number (λ l. refl) shown.node.unsent in
    cc
