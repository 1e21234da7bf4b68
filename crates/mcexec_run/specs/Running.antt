-- What a run on threads comes to. Which of the legal journals it keeps, the threads decide.
use Rattle.hybrid_model.specs.Claims.{Headline}
use Rattle.hybrid_model.specs.Journals.{IsLegal, IsOver, ending}
use Rattle.hybrid_model.specs.Pairs.{Pair}
use Rattle.hybrid_model.specs.declared.events.Ending.TheVariants.{Unfinished}
use Rattle.hybrid_model.specs.declared.events.Event.{Event}
use Rattle.mcexec_run.specs.Outcome.{NoLine, Outcome, last_state}
use Rattle.mcexec_run.specs.declared.chain.Prepared.{Prepared}
use Rattle.mck_report.specs.Status.{status_of}
use Rattle.mck_report.specs.declared.status.Status.TheVariants.{HostFault, NoMemory, SinkFault}
use Rattle.mck_report.specs.declared.status.Status.{Status}
use Rattle.std.specs.Prelude.{◌≡◌, ◌≢◌, ℕ, List, Option, Result, Ok}

-- A legal journal after which no event may happen, the status of its ending and its text, which `write` makes of the last state and the
-- journal. Of the journal the whole claim holds.
pub record ShowsRun (write : Pair → List Event → List ℕ) (p : Prepared) (status : Status) (journal : List Event) (text : List ℕ) : Type 0 where
  pub legal : IsLegal p.job p.images journal
  pub headline : Headline p.job p.images journal
  pub over : ending (last_state p journal) ≢ Unfinished
  pub still : IsOver (last_state p journal)
  pub ends : status ≡ status_of (ending (last_state p journal))
  pub written : text ≡ write (last_state p journal) journal

-- What a run may leave that does not come to its end: of that too the whole claim holds.
pub record LeavesRun (p : Prepared) (journal : List Event) : Type 0 where
  pub legal : IsLegal p.job p.images journal
  pub headline : Headline p.job p.images journal

abbrev pub RunOutcome : Result Prepared Status → (Pair → List Event → List ℕ) → Status → List Event → Option (List ℕ) → Option (List ℕ) → Type 0
RunOutcome ready write status journal old new = Outcome ready LeavesRun NoLine (ShowsRun write) status journal old new

-- how a run may end, with this status, where nothing refuses and no fault comes
pub data RunEnds (write : Pair → List Event → List ℕ) (p : Prepared) (status : Status) (journal : List Event) : Type 0 where
  -- with the status of its ending
  WholeRun : (text : List ℕ) → ShowsRun write p status journal text → RunEnds write p status journal
  -- for want of memory
  ShortRun : status ≡ NoMemory → RunEnds write p status journal

abbrev pub CompletesRun : Result Prepared Status → (Pair → List Event → List ℕ) → Status → List Event → Type 0
CompletesRun ready write status journal = (p : Prepared) → ready ≡ Ok p → status ≢ HostFault → status ≢ SinkFault → RunEnds write p status journal
