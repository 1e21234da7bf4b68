-- What a call of the program answers, what it keeps and what it writes: the table of statuses, row by row.
use Rattle.hybrid_model.specs.Boot.{boot}
use Rattle.hybrid_model.specs.Claims.{Headline}
use Rattle.hybrid_model.specs.Journals.{IsLegal, IsOver, ending, state}
use Rattle.hybrid_model.specs.Pairs.{Pair}
use Rattle.hybrid_model.specs.Shown.{one}
use Rattle.hybrid_model.specs.declared.events.Ending.TheVariants.{Unfinished}
use Rattle.hybrid_model.specs.declared.events.Event.{Event}
use Rattle.ihk_parts.specs.Turns.{words_of}
use Rattle.mcexec_run.specs.declared.chain.Prepared.{Prepared}
use Rattle.mcexec_run.specs.declared.command.Form.TheVariants.{Report, Trace}
use Rattle.mcexec_run.specs.declared.command.Form.{Form}
use Rattle.mck_report.specs.Checks.{check_parts}
use Rattle.mck_report.specs.Status.{status_of}
use Rattle.mck_report.specs.declared.status.Status.TheVariants.{BadTrace, Done, HostFault, NoMemory, SinkFault}
use Rattle.mck_report.specs.declared.status.Status.{Status}
use Rattle.mck_word.specs.declared.no_memory.NoMemory.{NoMemory as Want}
use Rattle.outside.specs.Outside.{Takes, TakesFront}
use Rattle.run_model.specs.Reports.{report_parts, requests}
use Rattle.run_model.specs.Texts.{text_of}
use Rattle.run_model.specs.Traces.{trace}
use Rattle.run_model.specs.Walks.{IsWalked, start, walk_for}
use Rattle.std.specs.Prelude.{◌≡◌, ◌≢◌, ◌⊎◌, ℕ, List, [], length, Option, Result, Ok, Err}

-- `ready` is what the chain before the run comes to. SoFar says which journals a run may leave that does not come to its end, Bad
-- which line of a trace is the first that is refused, and Shows which status, journal and text the call is to come to.
pub data Outcome {W : Type 0} (ready : Result W Status) (SoFar : W → List Event → Type 0) (Bad : W → ℕ → Type 0) (Shows : W → Status → List Event → List ℕ → Type 0)
    (status : Status) (journal : List Event) (old new : Option (List ℕ)) : Type 0 where
  -- the first refusal: nothing is kept, nothing is written
  Refused : ready ≡ Err status → journal ≡ [] → new ≡ old → Outcome ready SoFar Bad Shows status journal old new
  -- a line of the trace is refused: nothing is kept, nothing is written
  BadLine : (w : W) (line : ℕ) → status ≡ BadTrace line → ready ≡ Ok w → Bad w line → journal ≡ [] → new ≡ old → Outcome ready SoFar Bad Shows status journal old new
  -- all is written
  Shown : (w : W) (text : List ℕ) → ready ≡ Ok w → Shows w status journal text → Takes old text new → Outcome ready SoFar Bad Shows status journal old new
  -- the sink failed: a front of the text is written
  SinkFailed : (w : W) (text : List ℕ) (meant : Status) → status ≡ SinkFault → ready ≡ Ok w → Shows w meant journal text → TakesFront old text new →
      Outcome ready SoFar Bad Shows status journal old new
  -- the host failed
  HostFailed : status ≡ HostFault → journal ≡ [] → new ≡ old → Outcome ready SoFar Bad Shows status journal old new
  -- want of memory, before the run and in it
  NoneStarted : status ≡ NoMemory → journal ≡ [] → new ≡ old → Outcome ready SoFar Bad Shows status journal old new
  RanShort : (w : W) → status ≡ NoMemory → ready ≡ Ok w → SoFar w journal → new ≡ old → Outcome ready SoFar Bad Shows status journal old new

-- a call without a trace refuses no line
abbrev pub NoLine : {W : Type 0} → W → ℕ → Type 0
NoLine w line = ⊥

-- ---- texts

-- the text of a journal that led to this state
abbrev pub text_at : Form → Pair → List Event → List ℕ
text_at Report pair journal = text_of (report_parts (one pair) (ending pair) (requests pair) journal)
text_at Trace pair journal = trace journal

abbrev pub booted : Prepared → Pair
booted p = boot p.job p.images

abbrev pub last_state : Prepared → List Event → Pair
last_state p journal = state (booted p) journal

-- Writing a text: all of it, with the status that was meant; a front of it; or nothing, for want of memory.
pub data Puts (meant : Status) (text : List ℕ) (status : Status) (old new : Option (List ℕ)) : Type 0 where
  AllPut : status ≡ meant → Takes old text new → Puts meant text status old new
  FrontPut : status ≡ SinkFault → TakesFront old text new → Puts meant text status old new
  NonePut : status ≡ NoMemory → new ≡ old → Puts meant text status old new

-- The same of a text for which there may have been no memory.
abbrev pub PutsText : Result (List ℕ) Want → Status → Status → Option (List ℕ) → Option (List ℕ) → Type 0
PutsText (Ok text) meant status old new = Puts meant text status old new
PutsText (Err none) meant status old new = (status ≡ NoMemory) × (new ≡ old)

-- ---- a walk

-- It comes to the journal that the order names, after which no event may happen, to the status of its ending and to its text, which
-- `write` makes of the last state and the journal. Of the journal the whole claim holds.
pub record ShowsWalk (order : ℕ) (write : Pair → List Event → List ℕ) (p : Prepared) (status : Status) (journal : List Event) (text : List ℕ) : Type 0 where
  pub walked : IsWalked p.job p.images (words_of order) journal
  pub legal : IsLegal p.job p.images journal
  pub headline : Headline p.job p.images journal
  pub over : ending (last_state p journal) ≢ Unfinished
  pub still : IsOver (last_state p journal)
  pub ends : status ≡ status_of (ending (last_state p journal))
  pub written : text ≡ write (last_state p journal) journal

-- What a walk may leave that does not come to its end: a front of its journal. Of that too the whole claim holds.
pub record LeavesWalk (order : ℕ) (p : Prepared) (journal : List Event) : Type 0 where
  pub front : walk_for (words_of order) (length journal) (start p.job p.images) ≡ journal
  pub legal : IsLegal p.job p.images journal
  pub headline : Headline p.job p.images journal

abbrev pub WalkOutcome : Result Prepared Status → ℕ → (Pair → List Event → List ℕ) → Status → List Event → Option (List ℕ) → Option (List ℕ) → Type 0
WalkOutcome ready order write status journal old new = Outcome ready (LeavesWalk order) NoLine (ShowsWalk order write) status journal old new

-- how a walk may end, with this status, where nothing refuses and no fault comes
pub data WalkEnds (order : ℕ) (write : Pair → List Event → List ℕ) (p : Prepared) (status : Status) (journal : List Event) : Type 0 where
  -- with the status of its ending
  Whole : (text : List ℕ) → ShowsWalk order write p status journal text → WalkEnds order write p status journal
  -- for want of memory
  Short : status ≡ NoMemory → WalkEnds order write p status journal

-- Where nothing refuses and no fault comes, the answer is the status of the walk's ending, or want of memory.
abbrev pub Completes : Result Prepared Status → ℕ → (Pair → List Event → List ℕ) → Status → List Event → Type 0
Completes ready order write status journal = (p : Prepared) → ready ≡ Ok p → status ≢ HostFault → status ≢ SinkFault → WalkEnds order write p status journal

-- ---- a check

pub record ShowsCheck (p : Prepared) (status : Status) (journal : List Event) (text : List ℕ) : Type 0 where
  pub ends : status ≡ Done
  pub empty : journal ≡ []
  pub written : text ≡ text_of (check_parts p.job.frames p.images)

abbrev pub CheckOutcome : Result Prepared Status → Status → List Event → Option (List ℕ) → Option (List ℕ) → Type 0
CheckOutcome ready status journal old new = Outcome ready (λ _ left. left ≡ []) NoLine ShowsCheck status journal old new

-- where nothing refuses and no fault comes, the answer is Done, or want of memory
abbrev pub CompletesCheck : Result Prepared Status → Status → Type 0
CompletesCheck ready status = (p : Prepared) → ready ≡ Ok p → status ≢ HostFault → status ≢ SinkFault → (status ≡ Done) ⊎ (status ≡ NoMemory)

-- ---- a call that keeps and writes nothing

pub record Answers (meant status : Status) (journal : List Event) (old new : Option (List ℕ)) : Type 0 where
  pub ends : status ≡ meant
  pub empty : journal ≡ []
  pub nothing : new ≡ old
