-- What an audit comes to: a replay, run on the one-kernel machine beside the two kernels.
use Rattle.hybrid_model.specs.Journals.{ending, images}
use Rattle.hybrid_model.specs.declared.events.Event.{Event}
use Rattle.kernel_model.specs.OneKernel.{OneKernel, boot}
use Rattle.kernel_model.specs.Steps.{after_all}
use Rattle.mcexec_run.specs.Outcome.{Outcome, booted, last_state}
use Rattle.mcexec_run.specs.Replaying.{LeavesReplay, RefusesLine, ShowsReplay, Traced, ran_whole}
use Rattle.mcexec_run.specs.declared.chain.Prepared.{Prepared}
use Rattle.mck_report.specs.declared.status.Status.{Status}
use Rattle.run_model.specs.Reports.{report_parts, requests}
use Rattle.run_model.specs.Texts.{text_of}
use Rattle.std.specs.Prelude.{◌≡◌, ℕ, true, false, List, Option, None, Some, Result, Ok}

-- the state to which the images of the journal's events, joined, bring the one-kernel machine from its boot
abbrev pub single_state : Prepared → List Event → OneKernel
single_state p journal = after_all (boot p.job p.images) (images (booted p) journal)

-- What a replay shows, and the text is the report of the one-kernel machine's state too.
pub record ShowsAudit (t : Traced) (status : Status) (journal : List Event) (text : List ℕ) : Type 0 where
  pub replayed : ShowsReplay t status journal text
  pub printed : text ≡ text_of (report_parts (single_state t.start journal) (ending (last_state t.start journal)) (requests (last_state t.start journal)) journal)

abbrev pub AuditOutcome : Result Traced Status → Status → List Event → Option (List ℕ) → Option (List ℕ) → Type 0
AuditOutcome ready status journal old new = Outcome ready LeavesReplay RefusesLine ShowsAudit status journal old new

-- The machine is handed out exactly where the trace was run to its end, in the state to which its steps lead.
pub record SingleRun (ready : Result Traced Status) (status : Status) (journal : List Event) (machine : Option OneKernel) : Type 0 where
  pub whole : (t : Traced) → ready ≡ Ok t → ran_whole status ≡ true → machine ≡ Some (single_state t.start journal)
  pub none : ran_whole status ≡ false → machine ≡ None
