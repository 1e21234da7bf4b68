-- The job that grow makes, and what grow writes.
use Rattle.guest_asm.specs.Growing.{grow_images_of, grow_job_of}
use Rattle.hybrid_model.specs.Journals.{ending}
use Rattle.hybrid_model.specs.Pairs.{Pair}
use Rattle.hybrid_model.specs.Shown.{one}
use Rattle.hybrid_model.specs.declared.events.Event.{Event}
use Rattle.mcexec_run.specs.Outcome.{WalkOutcome}
use Rattle.mcexec_run.specs.declared.chain.Prepared.{Prepared}
use Rattle.mck_report.specs.declared.status.Status.{Status}
use Rattle.run_model.specs.Reports.{count_lines, ending_line, requests}
use Rattle.run_model.specs.Texts.{Line, Number, Text, text_of}
use Rattle.std.specs.Prelude.{ℕ, List, [], ◌∷◌, codes, Option, Ok}

abbrev pub grown : ℕ → Prepared
grown n = record { job = grow_job_of n; images = grow_images_of n }

-- the ending, the number of guests, and the counts of the report
abbrev pub grow_text : ℕ → Pair → List Event → List ℕ
grow_text n pair journal = text_of (ending_line (ending pair) ∷ Line (Text (codes "guests") ∷ Number n ∷ []) ∷ count_lines (one pair) (requests pair) journal)

-- the walk of that job: nothing stands before it
abbrev pub GrowOutcome : ℕ → ℕ → Status → List Event → Option (List ℕ) → Option (List ℕ) → Type 0
GrowOutcome n order status journal old new = WalkOutcome (Ok (grown n)) order (grow_text n) status journal old new
