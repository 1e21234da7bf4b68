-- Traces that are run again: what a trace spells, the first line of it that is refused, and what a replay comes to.
use Rattle.hybrid_model.specs.Claims.{Headline}
use Rattle.hybrid_model.specs.Events.{may}
use Rattle.hybrid_model.specs.Journals.{IsLegal, IsOver, ending, may_all, state}
use Rattle.hybrid_model.specs.Pairs.{Pair}
use Rattle.hybrid_model.specs.declared.events.Ending.TheVariants as endings
use Rattle.hybrid_model.specs.declared.events.Event.{Event}
use Rattle.mcexec_run.specs.Chain.{◌>>=◌, fetched, gathered, has_to_fetch, with_frames}
use Rattle.mcexec_run.specs.Outcome.{Outcome, booted, last_state, text_at}
use Rattle.mcexec_run.specs.declared.chain.Prepared.{Prepared}
use Rattle.mcexec_run.specs.declared.command.Form.TheVariants.{Report}
use Rattle.mck_report.specs.Reading.{Fits, IsEntry, IsVersion}
use Rattle.mck_report.specs.Status.{status_of}
use Rattle.mck_report.specs.declared.status.Status.TheVariants.{BadTrace, Done, HostFault, Limit, NoMemory, SinkFault, Stalled, Unfinished}
use Rattle.mck_report.specs.declared.status.Status.{Status}
use Rattle.outside.specs.Outside.{Held}
use Rattle.run_model.specs.Texts.{Line, part_bytes, text_of}
use Rattle.run_model.specs.Traces.{Spells, event_lines, version, words_of}
use Rattle.std.specs.List.{AllByRecursion}
use Rattle.std.specs.Prelude.{◌≡◌, ◌≢◌, ◌⊎◌, ℕ, ◌+◌, Bool, true, false, List, [], ◌∷◌, ◌++◌, length, Option, Result, Ok}

-- ---- what a trace says

-- The bytes are a first line that names the version, the lines of these events, and the rest.
pub record Begins (bytes : List ℕ) (v : ℕ) (events : List Event) (rest : List ℕ) : Type 0 where
  pub known : IsVersion v
  pub entries : AllByRecursion (IsEntry v) events
  pub text : bytes ≡ text_of (version v ∷ event_lines events) ++ rest

-- the journal is a front of the trace
abbrev pub IsFront : List ℕ → List Event → Type 0
IsFront bytes journal = (v : ℕ) × (rest : List ℕ) × Begins bytes v journal rest

-- the journal is the one that the trace spells
pub record IsTraceOf (bytes : List ℕ) (journal : List Event) : Type 0 where
  pub spelled : Spells bytes journal
  pub fits : AllByRecursion Fits journal

-- The line of that number is the first of the trace that is no entry or whose event may not happen there, in the run from that state:
-- the first line, where it names no version; else one behind the lines of events that may happen, where bytes are left, and each event
-- whose line stands there may not happen.
pub data FirstRefused (pair : Pair) (bytes : List ℕ) (line : ℕ) : Type 0 where
  NoVersion : line ≡ 1 → ((v : ℕ) (rest : List ℕ) → IsVersion v → bytes ≡ part_bytes (version v) ++ rest → ⊥) → FirstRefused pair bytes line
  NoEvent : (v : ℕ) (events : List Event) (rest : List ℕ) → Begins bytes v events rest → may_all pair events ≡ true → line ≡ length events + 2 → (rest ≡ [] → ⊥) →
      ((e : Event) (more : List ℕ) → IsEntry v e → rest ≡ part_bytes (Line (words_of e)) ++ more → may (state pair events) e ≡ false) → FirstRefused pair bytes line

-- The same of the lines behind the first: a front of them is the journal's, and the line is the first that is refused.
abbrev pub FrontBehind : List ℕ → List Event → Type 0
FrontBehind bytes journal = (rest : List ℕ) × (bytes ≡ text_of (event_lines journal) ++ rest)

pub record RefusedBehind (pair : Pair) (v : ℕ) (events : List Event) (bytes : List ℕ) (line : ℕ) : Type 0 where
  pub rest : List ℕ
  pub text : bytes ≡ text_of (event_lines events) ++ rest
  pub number : line ≡ length events + 2
  pub some : rest ≡ [] → ⊥
  pub none : (e : Event) (more : List ℕ) → IsEntry v e → rest ≡ part_bytes (Line (words_of e)) ++ more → may (state pair events) e ≡ false

-- ---- what stands before a replay

-- a job, and the bytes of its trace
pub record Traced : Type 0 where
  pub start : Prepared
  pub trace : List ℕ

abbrev pub with_bytes : Prepared → Result (List ℕ) Status → Result Traced Status
with_bytes start found = found >>= λ bytes. Ok (record { start = start; trace = bytes })

-- the trace is fetched once the frames suffice
abbrev pub with_trace : Held → List ℕ → Prepared → Result Traced Status
with_trace held trace p = with_frames p >>= λ start. with_bytes start (fetched (held trace))

-- the same of the bytes of a trace that are handed in
abbrev pub with_given : List ℕ → Prepared → Result Traced Status
with_given trace p = with_frames p >>= λ start. with_bytes start (Ok trace)

abbrev pub traced : Held → List ℕ → List ℕ → Result Traced Status
traced held job trace = gathered held job >>= with_trace held trace

-- the names that a replay has to fetch
abbrev pub has_to_fetch_both : Held → List ℕ → List ℕ → List (List ℕ)
has_to_fetch_both held job trace = has_to_fetch held job ++ trace ∷ []

-- ---- what a replay comes to

-- The journal that the trace spells, legal, the status of its ending, and its report. Of the journal the whole claim holds, and where it
-- isn't unfinished, no event may happen after it.
pub record ShowsReplay (t : Traced) (status : Status) (journal : List Event) (text : List ℕ) : Type 0 where
  pub spelled : IsTraceOf t.trace journal
  pub legal : IsLegal t.start.job t.start.images journal
  pub headline : Headline t.start.job t.start.images journal
  pub still : ending (last_state t.start journal) ≢ endings.Unfinished → IsOver (last_state t.start journal)
  pub ends : status ≡ status_of (ending (last_state t.start journal))
  pub written : text ≡ text_at Report (last_state t.start journal) journal

-- What a replay may leave that does not come to its end: a front of the trace. Of that too the whole claim holds.
pub record LeavesReplay (t : Traced) (journal : List Event) : Type 0 where
  pub front : IsFront t.trace journal
  pub legal : IsLegal t.start.job t.start.images journal
  pub headline : Headline t.start.job t.start.images journal

abbrev pub RefusesLine : Traced → ℕ → Type 0
RefusesLine t line = FirstRefused (booted t.start) t.trace line

abbrev pub ReplayOutcome : Result Traced Status → Status → List Event → Option (List ℕ) → Option (List ℕ) → Type 0
ReplayOutcome ready status journal old new = Outcome ready LeavesReplay RefusesLine ShowsReplay status journal old new

-- Where nothing refuses before the trace and no fault comes: a legal trace is answered by the status of its ending, and another one by
-- its first line that is refused. Want of memory is free.
pub record CompletesReplay (ready : Result Traced Status) (status : Status) (journal : List Event) : Type 0 where
  pub legal : (t : Traced) (spelled : List Event) → ready ≡ Ok t → status ≢ HostFault → status ≢ SinkFault → IsTraceOf t.trace spelled → IsLegal t.start.job t.start.images spelled
      → ((status ≡ status_of (ending (last_state t.start spelled))) × (journal ≡ spelled)) ⊎ (status ≡ NoMemory)
  pub refused : (t : Traced) (line : ℕ) → ready ≡ Ok t → status ≢ HostFault → status ≢ SinkFault → RefusesLine t line → (status ≡ BadTrace line) ⊎ (status ≡ NoMemory)

-- the statuses of a trace that was run to its end
abbrev pub ran_whole : Status → Bool
ran_whole Done = true
ran_whole Stalled = true
ran_whole Limit = true
ran_whole SinkFault = true
ran_whole Unfinished = true
ran_whole status = false

-- the state is the one to which a journal led of which the whole claim holds
pub record LedTo (p : Prepared) (journal : List Event) (pair : Pair) : Type 0 where
  pub last : pair ≡ last_state p journal
  pub headline : Headline p.job p.images journal
