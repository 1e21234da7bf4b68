-- The outcome of a replay.
use Rattle.hybrid_model.specs.Boot.{Shortage, shortage}
use Rattle.hybrid_model.specs.Journals.{IsLegal, ending, may_all, state}
use Rattle.hybrid_model.specs.Pairs.{Pair}
use Rattle.hybrid_model.specs.declared.events.Event.{Event}
use Rattle.mcexec_run.proofs.Outcomes.{Claimed}
use Rattle.mcexec_run.proofs.TraceLines.{front_of, not_refused, same_refusal, same_trace}
use Rattle.mcexec_run.specs.Chain.{◌>>=◌, Fails, fetched, gathered, or_no_frames, with_frames}
use Rattle.mcexec_run.specs.Outcome.{AllPut, BadLine, FrontPut, HostFailed, NonePut, NoneStarted, Puts, RanShort, Refused, Shown, SinkFailed, booted, last_state, text_at}
use Rattle.mcexec_run.specs.Replaying.{CompletesReplay, FirstRefused, IsFront, IsTraceOf, RefusesLine, ReplayOutcome, ShowsReplay, Traced, traced, with_bytes, with_given, with_trace}
use Rattle.mcexec_run.specs.declared.chain.Prepared.{Prepared}
use Rattle.mcexec_run.specs.declared.command.Form.TheVariants.{Report}
use Rattle.mck_report.specs.Status.{status_of}
use Rattle.mck_report.specs.declared.status.Status.TheVariants.{BadTrace, HostFault, NoMemory, SinkFault}
use Rattle.mck_report.specs.declared.status.Status.{Status}
use Rattle.outside.specs.Outside.{Held}
use Rattle.std.proofs.Common.{Err, List, None, Ok, Option, Result, Some, ap, inl, inr, refl, subst, sym, true, ℕ, [], ◌∙◌, ◌≡◌, ◌≢◌, ◌⊎◌}

-- ---- a trace that was run

put_replay : (t : Traced) (journal : List Event) (status : Status) (old new : Option (List ℕ)) → Claimed t.start → IsTraceOf t.trace journal → IsLegal t.start.job t.start.images journal
    → Puts (status_of (ending (last_state t.start journal))) (text_at Report (last_state t.start journal) journal) status old new → ReplayOutcome (Ok t) status journal old new
put_replay t journal status old new every s l (AllPut e took) =
    Shown t (text_at Report (last_state t.start journal) journal) refl (record { spelled = s; legal = l; headline = (every journal l).0; still = (every journal l).1; ends = e; written = refl }) took
put_replay t journal status old new every s l (FrontPut e took) =
    SinkFailed t (text_at Report (last_state t.start journal) journal) (status_of (ending (last_state t.start journal))) e refl
    (record { spelled = s; legal = l; headline = (every journal l).0; still = (every journal l).1; ends = refl; written = refl }) took
put_replay t journal status old new every s l (NonePut e n) = RanShort t e refl (record { front = front_of t.trace journal s; legal = l; headline = (every journal l).0 }) n

pub is_legal : (p : Prepared) (first : Pair) (journal : List Event) → first ≡ booted p → shortage p.job p.images ≡ None → may_all first journal ≡ true → IsLegal p.job p.images journal
is_legal p first journal s h l = (h, subst (λ (x : Pair). may_all x journal ≡ true) s l)

pub is_last : (p : Prepared) (first end : Pair) (journal : List Event) → first ≡ booted p → end ≡ state first journal → end ≡ last_state p journal
is_last p first end journal s e = subst (λ (x : Pair). end ≡ state x journal) s e

-- from the machine's state at the start and at the end
pub replay_outcome : (t : Traced) (first end : Pair) (journal journal' : List Event) (status : Status) (old new : Option (List ℕ)) → Claimed t.start → first ≡ booted t.start → shortage t.start.job t.start.images ≡ None
    → IsTraceOf t.trace journal → may_all first journal ≡ true → end ≡ state first journal → journal' ≡ journal
    → Puts (status_of (ending end)) (text_at Report end journal') status old new → ReplayOutcome (Ok t) status journal old new
replay_outcome t first end journal journal' status old new every s h trace l e j puts =
    put_replay t journal status old new every trace (is_legal t.start first journal s h l)
    (subst (λ (x : Pair). Puts (status_of (ending x)) (text_at Report x journal) status old new) (is_last t.start first end journal s e)
    (subst (λ (js : List Event). Puts (status_of (ending end)) (text_at Report end js) status old new) j puts))

pub replay_short : (t : Traced) (first : Pair) (journal : List Event) (old : Option (List ℕ)) → Claimed t.start → first ≡ booted t.start → shortage t.start.job t.start.images ≡ None
    → IsFront t.trace journal → may_all first journal ≡ true → ReplayOutcome (Ok t) NoMemory journal old old
replay_short t first journal old every s h front l =
    let legal = is_legal t.start first journal s h l in RanShort t refl refl (record { front = front; legal = legal; headline = (every journal legal).0 }) refl

pub replay_bad : (t : Traced) (first : Pair) (line : ℕ) (journal : List Event) (old : Option (List ℕ)) → first ≡ booted t.start → FirstRefused first t.trace line → journal ≡ [] → ReplayOutcome (Ok t) (BadTrace line) journal old old
replay_bad t first line journal old s f j = BadLine t line refl refl (subst (λ (x : Pair). FirstRefused x t.trace line) s f) j refl

-- ---- what stands before it

-- a trace that was fetched
pub found_trace : (held : Held) (trace bytes : List ℕ) (p : Prepared) (status : Status) (journal : List Event) (old new : Option (List ℕ)) → with_frames p ≡ Ok p → fetched (held trace) ≡ Ok bytes
    → ReplayOutcome (Ok (record { start = p; trace = bytes })) status journal old new → ReplayOutcome (with_trace held trace p) status journal old new
found_trace held trace bytes p status journal old new w f o =
    let same : with_trace held trace p ≡ Ok (record { start = p; trace = bytes }) =
    ap (λ r. r >>= λ start. with_bytes start (fetched (held trace))) w ∙ ap (with_bytes p) f in
    subst (λ ready. ReplayOutcome ready status journal old new) (sym same) o

-- a trace that was not
pub no_trace : (held : Held) (trace : List ℕ) (p : Prepared) (status : Status) → with_frames p ≡ Ok p → Fails status (fetched (held trace)) → Fails status (with_trace held trace p)
no_trace held trace p NoMemory w f = tt
no_trace held trace p HostFault w f = tt
no_trace held trace p status w f = ap (λ r. r >>= λ start. with_bytes start (fetched (held trace))) w ∙ ap (with_bytes p) f

-- where frames suffice, the job stays as it is
pub frames_same : (p q : Prepared) (lack : Option Shortage) → or_no_frames p lack ≡ Ok q → q ≡ p
frames_same p q None e = cc
frames_same p q (Some lack) e = cc

bytes_same : (p : Prepared) (found : Result (List ℕ) Status) (t : Traced) → with_bytes p found ≡ Ok t → t.start ≡ p
bytes_same p (Ok bytes) t e = (let s : t ≡ record { start = p; trace = bytes } = cc in ap (λ (x : Traced). x.start) s)
bytes_same p (Err status) t e = cc

pub framed : (found : Result (List ℕ) Status) (p : Prepared) (r : Result Prepared Status) (t : Traced) → ((q : Prepared) → r ≡ Ok q → q ≡ p) → (r >>= λ start. with_bytes start found) ≡ Ok t → t.start ≡ p
framed found p (Ok q) t h e = bytes_same q found t e ∙ h q refl
framed found p (Err status) t h e = cc

pub start_is : (held : Held) (job trace : List ℕ) (p : Prepared) (t : Traced) → gathered held job ≡ Ok p → traced held job trace ≡ Ok t → t.start ≡ p
start_is held job trace p t g e =
    framed (fetched (held trace)) p (with_frames p) t (λ q w. frames_same p q (shortage p.job p.images) w) (sym (ap (λ r. r >>= with_trace held trace) g) ∙ e)

pub start_of : (trace : List ℕ) (p : Prepared) (t : Traced) → with_given trace p ≡ Ok t → t.start ≡ p
start_of trace p t e = framed (Ok trace) p (with_frames p) t (λ q w. frames_same p q (shortage p.job p.images) w) e

-- ---- what a replay comes to where nothing fails

same_traced : (ready : Result Traced Status) (t u : Traced) → ready ≡ Ok t → ready ≡ Ok u → t ≡ u
same_traced ready t u a b = cc

no_ready : (ready : Result Traced Status) (t : Traced) (status : Status) → ready ≡ Ok t → ready ≡ Err status → ⊥
no_ready ready t status a b = cc

abbrev Legal : Status → List Event → Traced → Type 0
Legal status journal t = (spelled : List Event) → IsTraceOf t.trace spelled → IsLegal t.start.job t.start.images spelled
    → ((status ≡ status_of (ending (last_state t.start spelled))) × (journal ≡ spelled)) ⊎ (status ≡ NoMemory)

shown_legal : (t : Traced) (status : Status) (journal : List Event) (text : List ℕ) → ShowsReplay t status journal text → Legal status journal t
shown_legal t status journal text shows spelled s l =
    let same = same_trace t.trace journal spelled shows.spelled s in
    inl (shows.ends ∙ ap (λ js. status_of (ending (last_state t.start js))) same, same)

completes_legal : (ready : Result Traced Status) (status : Status) (journal : List Event) (old new : Option (List ℕ)) → ReplayOutcome ready status journal old new → (t : Traced) → ready ≡ Ok t → status ≢ HostFault → status ≢ SinkFault → Legal status journal t
completes_legal ready status journal old new (Refused e j n) t r h s spelled trace legal = absurd (no_ready ready t status r e)
completes_legal ready status journal old new (BadLine w line e q bad j n) t r h s spelled trace legal =
    let bad_here : RefusesLine t line = subst (λ (x : Traced). RefusesLine x line) (same_traced ready w t q r) bad in
    absurd (not_refused (booted t.start) t.trace line spelled trace legal.1 bad_here)
completes_legal ready status journal old new (Shown w text q shows took) t r h s spelled trace legal =
    shown_legal t status journal text (subst (λ (x : Traced). ShowsReplay x status journal text) (same_traced ready w t q r) shows) spelled trace legal
completes_legal ready status journal old new (SinkFailed w text meant e q shows took) t r h s spelled trace legal = absurd (s e)
completes_legal ready status journal old new (HostFailed e j n) t r h s spelled trace legal = absurd (h e)
completes_legal ready status journal old new (NoneStarted e j n) t r h s spelled trace legal = inr e
completes_legal ready status journal old new (RanShort w e q so n) t r h s spelled trace legal = inr e

completes_refused : (ready : Result Traced Status) (status : Status) (journal : List Event) (old new : Option (List ℕ)) → ReplayOutcome ready status journal old new → (t : Traced) (line : ℕ) → ready ≡ Ok t → status ≢ HostFault → status ≢ SinkFault
    → RefusesLine t line → (status ≡ BadTrace line) ⊎ (status ≡ NoMemory)
completes_refused ready status journal old new (Refused e j n) t line r h s refused = absurd (no_ready ready t status r e)
completes_refused ready status journal old new (BadLine w other e q bad j n) t line r h s refused =
    let bad_here : RefusesLine t other = subst (λ (x : Traced). RefusesLine x other) (same_traced ready w t q r) bad in
    inl (e ∙ ap (λ l. BadTrace l) (same_refusal (booted t.start) t.trace other line bad_here refused))
completes_refused ready status journal old new (Shown w text q shows took) t line r h s refused =
    let here : ShowsReplay t status journal text = subst (λ (x : Traced). ShowsReplay x status journal text) (same_traced ready w t q r) shows in
    absurd (not_refused (booted t.start) t.trace line journal here.spelled here.legal.1 refused)
completes_refused ready status journal old new (SinkFailed w text meant e q shows took) t line r h s refused = absurd (s e)
completes_refused ready status journal old new (HostFailed e j n) t line r h s refused = absurd (h e)
completes_refused ready status journal old new (NoneStarted e j n) t line r h s refused = inr e
completes_refused ready status journal old new (RanShort w e q so n) t line r h s refused = inr e

pub completes_replay : (ready : Result Traced Status) (status : Status) (journal : List Event) (old new : Option (List ℕ)) → ReplayOutcome ready status journal old new → CompletesReplay ready status journal
completes_replay ready status journal old new o = record {
  legal = λ t spelled r h s trace legal. completes_legal ready status journal old new o t r h s spelled trace legal;
  refused = λ t line r h s refused. completes_refused ready status journal old new o t line r h s refused;
}
