-- The report of a journal.
-- Source: this project's own.
use Rattle.file_model.specs.Files.{Console, Files, Inode}
use Rattle.file_model.specs.Paths.{bytes_before, path_of}
use Rattle.hybrid_model.specs.Boot.{boot}
use Rattle.hybrid_model.specs.Journals.{ending, state, images}
use Rattle.hybrid_model.specs.Pairs.{Pair}
use Rattle.hybrid_model.specs.Shown.{one}
use Rattle.hybrid_model.specs.Sides.{Side}
use Rattle.hybrid_model.specs.declared.events.Ending.{Ending}
use Rattle.hybrid_model.specs.declared.events.Ending.TheVariants.{Done, Limit, Stalled, Unfinished}
use Rattle.hybrid_model.specs.declared.events.Event.{Event}
use Rattle.hybrid_model.specs.declared.events.Event.TheVariants.{Miss, BeginVm}
use Rattle.job_model.specs.declared.image.Image.{Image}
use Rattle.job_model.specs.declared.job.Job.{Job}
use Rattle.kernel_model.specs.Nodes.{Process, ScriptLine, instructions_in_all}
use Rattle.kernel_model.specs.OneKernel.{OneKernel}
use Rattle.kernel_model.specs.declared.Life.{Life}
use Rattle.kernel_model.specs.declared.Life.TheVariants.{Living, Dying, Ended}
use Rattle.mck_word.specs.Lists.{sorted_by}
use Rattle.mck_word.specs.Maps.{total, entries}
use Rattle.mck_word.specs.declared.End.{End}
use Rattle.mck_word.specs.declared.End.TheVariants.{Exit, Killed}
use Rattle.run_model.specs.Texts.{Word, Text, Number, Part, Line, Block, text_of}
use Rattle.std.specs.List.{filter_map}
use Rattle.std.specs.Prelude.{ℕ, ◌+◌, ◌-◌, ◌/◌, ◌%◌, Bool, true, false, not, cond, ◌&&◌, ◌==◌, nat_lt, nat_le, List, [], ◌∷◌, ◌++◌, map, flat_map, length, codes, Option, Some, None, count_by}

-- ---- its parts

abbrev pub ending_word : Ending → List ℕ
ending_word Done = codes "done"
ending_word Limit = codes "limit"
ending_word Stalled = codes "stalled"
ending_word Unfinished = codes "unfinished"

abbrev pub end_words : End → List Word
end_words (Exit code) = Text (codes "exit") ∷ Number code ∷ []
end_words (Killed signal) = Text (codes "killed") ∷ Number signal ∷ []

abbrev pub life_words : Life → List Word
life_words Living = Text (codes "running") ∷ []
life_words (Dying e) = end_words e
life_words (Ended e) = end_words e

abbrev pub guest_line : ℕ × Process → Part
guest_line e = Line (Text (codes "guest") ∷ Number e.0 ∷ life_words e.1.life)

abbrev pub output_lines : ℕ × Console → List Part
output_lines e = Line (Text (codes "output") ∷ Number e.0 ∷ Number (length e.1.output) ∷ []) ∷ Block e.1.output ∷ []

-- bytes outside 0x21 to 0x7e and the backslash are written as \x and two hexadecimal digits
abbrev pub hex_digit : ℕ → ℕ
hex_digit n = cond (nat_lt n 10) (48 + n) (87 + n)

abbrev pub escaped : ℕ → List ℕ
escaped b = cond (nat_le 0x21 b && nat_le b 0x7e && not (b == 92)) (b ∷ []) (92 ∷ 120 ∷ hex_digit (b / 16) ∷ hex_digit (b % 16) ∷ [])

-- a path's text with its node; the root and what was unlinked have none
pub record PathEntry : Type 0 where
  pub text : List ℕ
  pub node : Inode

abbrev pub path_entry : Files → ℕ × Inode → Option PathEntry
path_entry files e = elim e.1.name [ None ↦ None | Some name ↦ Some (record { text = path_of files e.0; node = e.1 }) ]

abbrev pub entry_before : PathEntry → PathEntry → Bool
entry_before a b = bytes_before a.text b.text

abbrev pub path_lines : PathEntry → List Part
path_lines e = cond e.node.directory
    (Line (Text (codes "dir") ∷ Text (flat_map escaped e.text) ∷ []) ∷ [])
    (Line (Text (codes "file") ∷ Text (flat_map escaped e.text) ∷ Number (length e.node.bytes) ∷ []) ∷ Block e.node.bytes ∷ [])

abbrev pub paths_in_order : Files → List PathEntry
paths_in_order files = sorted_by entry_before (filter_map (path_entry files) (entries files.nodes))

abbrev pub unsent_line : ScriptLine → Part
unsent_line l = Line (Text (codes "unsent") ∷ Number l.line ∷ [])

abbrev pub count_line : List ℕ → ℕ → Part
count_line name n = Line (Text (codes "count") ∷ Text name ∷ Number n ∷ [])

-- ---- counts of a journal

abbrev pub is_miss : Event → Bool
is_miss (Miss p w) = true
is_miss _ = false

abbrev pub is_begin_vm : Event → Bool
is_begin_vm (BeginVm t) = true
is_begin_vm _ = false

abbrev pub faults : List Event → ℕ
faults journal = count_by is_miss journal

abbrev pub rounds : List Event → ℕ
rounds journal = count_by is_begin_vm journal

-- the numbers given in all processes
abbrev pub requests : Pair → ℕ
requests pair = total (λ (s : Side). s.book.next - 1) pair.sides

-- ---- the text

abbrev pub ending_line : Ending → Part
ending_line e = Line (Text (codes "end") ∷ Text (ending_word e) ∷ [])

abbrev pub count_lines : OneKernel → ℕ → List Event → List Part
count_lines shown given journal =
    count_line (codes "instructions") (instructions_in_all shown.node) ∷ count_line (codes "requests") given
    ∷ count_line (codes "faults") (faults journal) ∷ count_line (codes "rounds") (rounds journal) ∷ count_line (codes "free") shown.free ∷ []

-- of a one-kernel state, an ending, the number of requests given and a journal
abbrev pub report_parts : OneKernel → Ending → ℕ → List Event → List Part
report_parts shown e given journal =
    Line (Text (codes "mcreport") ∷ Number 1 ∷ []) ∷ ending_line e
    ∷ map guest_line (entries shown.node.processes)
    ++ flat_map output_lines (entries shown.node.files.consoles)
    ++ flat_map path_lines (paths_in_order shown.node.files)
    ++ map unsent_line shown.node.unsent
    ++ count_lines shown given journal

abbrev pub report_of : Job → List Image → List Event → List Part
report_of job images journal = let s = state (boot job images) journal in report_parts (one s) (ending s) (requests s) journal

abbrev pub report : Job → List Image → List Event → List ℕ
report job images journal = text_of (report_of job images journal)

-- grow's text: the ending, the number of guests, and the counts
abbrev pub grow_parts : Job → List Image → List Event → List Part
grow_parts job images journal = let s = state (boot job images) journal in
    ending_line (ending s) ∷ Line (Text (codes "guests") ∷ Number (length job.guests) ∷ []) ∷ count_lines (one s) (requests s) journal
