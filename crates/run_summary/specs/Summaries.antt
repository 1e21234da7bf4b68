-- What a report says of a one-kernel state, and the report of what is said.
use Rattle.file_model.specs.declared.operations.PathRow.{PathRow}
use Rattle.file_model.specs.Files.{Console}
use Rattle.hybrid_model.specs.declared.events.Ending.{Ending}
use Rattle.hybrid_model.specs.declared.events.Event.{Event}
use Rattle.kernel_model.specs.Nodes.{Process, ScriptLine, instructions_in_all}
use Rattle.kernel_model.specs.OneKernel.{OneKernel}
use Rattle.kernel_model.specs.declared.Life.{Life}
use Rattle.kernel_model.specs.declared.Life.TheVariants.{Living, Dying, Ended}
use Rattle.mck_word.specs.Identifiers.{pid}
use Rattle.mck_word.specs.Maps.{entries}
use Rattle.mck_word.specs.declared.End.{End}
use Rattle.run_model.specs.Reports.{PathEntry, paths_in_order, end_words, ending_line, escaped, count_line, faults, rounds}
use Rattle.run_model.specs.Texts.{Word, Text, Number, Part, Line, Block}
use Rattle.run_summary.specs.declared.Output.{Output}
use Rattle.run_summary.specs.declared.ProcessEnd.{ProcessEnd}
use Rattle.run_summary.specs.declared.Summary.{Summary}
use Rattle.std.specs.Prelude.{ℕ, cond, List, [], ◌∷◌, ◌++◌, map, flat_map, length, codes, Option, Some, None}

-- ---- the summary of a state

abbrev pub end_of : Life → Option End
end_of Living = None
end_of (Dying e) = Some e
end_of (Ended e) = Some e

abbrev pub process_end : ℕ × Process → ProcessEnd
process_end e = record { pid = pid e.0; end = end_of e.1.life }

abbrev pub output_of : ℕ × Console → Output
output_of e = record { pid = pid e.0; bytes = e.1.output }

abbrev pub path_row : PathEntry → PathRow
path_row e = record { path = e.text; directory = e.node.directory; bytes = cond e.node.directory [] e.node.bytes }

abbrev pub line_number : ScriptLine → ℕ
line_number l = l.line

abbrev pub summary_of : OneKernel → Summary
summary_of shown = record {
  ends = map process_end (entries shown.node.processes);
  outputs = map output_of (entries shown.node.files.consoles);
  paths = map path_row (paths_in_order shown.node.files);
  unsent = map line_number shown.node.unsent;
  instructions = instructions_in_all shown.node;
  free = shown.free;
}

-- ---- the report of a summary

abbrev pub end_or_running : Option End → List Word
end_or_running None = Text (codes "running") ∷ []
end_or_running (Some e) = end_words e

abbrev pub end_line : ProcessEnd → Part
end_line p = Line (Text (codes "guest") ∷ Number p.pid.0 ∷ end_or_running p.end)

abbrev pub output_parts : Output → List Part
output_parts o = Line (Text (codes "output") ∷ Number o.pid.0 ∷ Number (length o.bytes) ∷ []) ∷ Block o.bytes ∷ []

abbrev pub path_parts : PathRow → List Part
path_parts r = cond r.directory
    (Line (Text (codes "dir") ∷ Text (flat_map escaped r.path) ∷ []) ∷ [])
    (Line (Text (codes "file") ∷ Text (flat_map escaped r.path) ∷ Number (length r.bytes) ∷ []) ∷ Block r.bytes ∷ [])

abbrev pub unsent_part : ℕ → Part
unsent_part line = Line (Text (codes "unsent") ∷ Number line ∷ [])

abbrev pub summary_counts : Summary → ℕ → List Event → List Part
summary_counts s given journal =
    count_line (codes "instructions") s.instructions ∷ count_line (codes "requests") given
    ∷ count_line (codes "faults") (faults journal) ∷ count_line (codes "rounds") (rounds journal) ∷ count_line (codes "free") s.free ∷ []

abbrev pub summary_parts : Summary → Ending → ℕ → List Event → List Part
summary_parts s e given journal =
    Line (Text (codes "mcreport") ∷ Number 1 ∷ []) ∷ ending_line e
    ∷ map end_line s.ends ++ flat_map output_parts s.outputs ++ flat_map path_parts s.paths ++ map unsent_part s.unsent ++ summary_counts s given journal
