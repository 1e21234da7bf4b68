-- The outcome of a walk.
use Rattle.hybrid_model.specs.Boot.{shortage}
use Rattle.hybrid_model.specs.Claims.{Headline}
use Rattle.hybrid_model.specs.Globals.{Coherent}
use Rattle.hybrid_model.specs.Journals.{IsLegal, IsOver, ending, ending_of_run, is_at_end, may_all, state}
use Rattle.hybrid_model.specs.Pairs.{Pair}
use Rattle.hybrid_model.specs.declared.events.Ending.TheVariants.{Unfinished}
use Rattle.hybrid_model.specs.declared.events.Event.{Event}
use Rattle.ihk_parts.specs.Turns.{words_of}
use Rattle.mcexec_run.specs.Chain.{◌>>=◌, Fails, IsRefusal}
use Rattle.mcexec_run.specs.Outcome.{AllPut, BadLine, CheckOutcome, Completes, CompletesCheck, FrontPut, HostFailed, LeavesWalk, NonePut, NoneStarted, Outcome, Puts, PutsText, RanShort, Refused, Short, Shown, ShowsWalk, SinkFailed, WalkOutcome, Whole, booted, last_state}
use Rattle.ihk_parts.specs.Walking.{walker_at}
use Rattle.mcexec_run.specs.declared.chain.Prepared.{Prepared}
use Rattle.mck_report.specs.Status.{status_of}
use Rattle.mck_report.specs.declared.status.Status.TheVariants.{BadElf, BadJob, Done, HostFault, LongFile, NoFrames, NoMemory}
use Rattle.mck_report.specs.declared.status.Status.{Status}
use Rattle.mck_report.specs.Checks.{check_parts}
use Rattle.mck_word.specs.declared.no_memory.NoMemory.{NoMemory as Want}
use Rattle.run_model.specs.Texts.{text_of}
use Rattle.run_model.specs.Walks.{walk_for}
use Rattle.std.proofs.Common.{Bool, Err, IfOk, List, None, Ok, Option, Result, ap, cond, false, inl, inr, length, refl, subst, sym, true, ℕ, [], ◌+◌, ◌∙◌, ◌≡◌, ◌≢◌}

-- where the run is over, no event may happen
abbrev pub StillAtEnd : Pair → Type 0
StillAtEnd pair = ending pair ≢ Unfinished → IsOver pair

-- the whole claim of each legal journal of a job, and that nothing may happen where its run is over
abbrev pub Claimed : Prepared → Type 0
Claimed p = (journal : List Event) → IsLegal p.job p.images journal → Headline p.job p.images journal × StillAtEnd (last_state p journal)

at-end : (pair : Pair) → ending pair ≢ Unfinished → is_at_end pair ≡ true
at-end pair o = go (is_at_end pair) o
  where
    go : (b : Bool) → cond b (ending_of_run pair) Unfinished ≢ Unfinished → b ≡ true
    go true n = refl
    go false n = absurd (n refl)

pub claimed : (p : Prepared) → ((journal : List Event) → IsLegal p.job p.images journal → Headline p.job p.images journal)
    → ((pair : Pair) → Coherent pair → is_at_end pair ≡ true → IsOver pair) → Claimed p
claimed p every stands journal legal =
    let headline = every journal legal in
    (headline, λ o. stands (last_state p journal) headline.coherent (at-end (last_state p journal) o))

-- a refusal before the run
pub refused : {W : Type 0} (ready : Result W Status) (SoFar : W → List Event → Type 0) (Bad : W → ℕ → Type 0) (Shows : W → Status → List Event → List ℕ → Type 0) (status : Status) (journal : List Event) (old new : Option (List ℕ)) →
    IsRefusal status → Fails status ready → journal ≡ [] → new ≡ old → Outcome ready SoFar Bad Shows status journal old new
refused ready SoFar Bad Shows (BadJob fault) journal old new r f j n = Refused f j n
refused ready SoFar Bad Shows (BadElf guest why) journal old new r f j n = Refused f j n
refused ready SoFar Bad Shows (NoFrames guest needed free) journal old new r f j n = Refused f j n
refused ready SoFar Bad Shows (LongFile line) journal old new r f j n = Refused f j n
refused ready SoFar Bad Shows HostFault journal old new r f j n = HostFailed refl j n
refused ready SoFar Bad Shows NoMemory journal old new r f j n = NoneStarted refl j n
refused ready SoFar Bad Shows status journal old new r f j n = absurd r

put_walk : (ready : Result Prepared Status) (p : Prepared) (order : ℕ) (write : Pair → List Event → List ℕ) (journal : List Event) (status : Status) (old new : Option (List ℕ)) → ready ≡ Ok p → Claimed p
    → walk_for (words_of order) (length journal) (walker_at (booted p)) ≡ journal → walk_for (words_of order) (length journal + 1) (walker_at (booted p)) ≡ journal
    → IsLegal p.job p.images journal → ending (last_state p journal) ≢ Unfinished
    → Puts (status_of (ending (last_state p journal))) (write (last_state p journal) journal) status old new → WalkOutcome ready order write status journal old new
put_walk ready p order write journal status old new r every f w l o (AllPut e t) =
    Shown p (write (last_state p journal) journal) r (record { walked = (length journal, f, w); legal = l; headline = (every journal l).0; over = o; still = (every journal l).1 o; ends = e; written = refl }) t
put_walk ready p order write journal status old new r every f w l o (FrontPut e t) =
    SinkFailed p (write (last_state p journal) journal) (status_of (ending (last_state p journal))) e r (record { walked = (length journal, f, w); legal = l; headline = (every journal l).0; over = o; still = (every journal l).1 o; ends = refl; written = refl }) t
put_walk ready p order write journal status old new r every f w l o (NonePut e n) = RanShort p e r (record { front = f; legal = l; headline = (every journal l).0 }) n

-- from the machine's state at the start and at the end
pub walk_outcome : (ready : Result Prepared Status) (p : Prepared) (first end : Pair) (order : ℕ) (write : Pair → List Event → List ℕ) (journal journal' : List Event) (status : Status) (old new : Option (List ℕ)) → ready ≡ Ok p → Claimed p → first ≡ booted p
    → walk_for (words_of order) (length journal) (walker_at first) ≡ journal → walk_for (words_of order) (length journal + 1) (walker_at first) ≡ journal
    → shortage p.job p.images ≡ None → may_all first journal ≡ true → end ≡ state first journal → ending end ≢ Unfinished → journal' ≡ journal
    → Puts (status_of (ending end)) (write end journal') status old new → WalkOutcome ready order write status journal old new
walk_outcome ready p first end order write journal journal' status old new r every s f w h l e o j puts =
    let whole : end ≡ last_state p journal = subst (λ (x : Pair). end ≡ state x journal) s e in
    put_walk ready p order write journal status old new r every
    (subst (λ (x : Pair). walk_for (words_of order) (length journal) (walker_at x) ≡ journal) s f)
    (subst (λ (x : Pair). walk_for (words_of order) (length journal + 1) (walker_at x) ≡ journal) s w)
    (h, subst (λ (x : Pair). may_all x journal ≡ true) s l)
    (subst (λ (x : Pair). ending x ≢ Unfinished) whole o)
    (subst (λ (x : Pair). Puts (status_of (ending x)) (write x journal) status old new) whole (subst (λ (js : List Event). Puts (status_of (ending end)) (write end js) status old new) j puts))

-- a front of a walk, from the machine's state at the start
leaves : (p : Prepared) (first : Pair) (order : ℕ) (journal : List Event) → Claimed p → first ≡ booted p → walk_for (words_of order) (length journal) (walker_at first) ≡ journal
    → shortage p.job p.images ≡ None → may_all first journal ≡ true → LeavesWalk order p journal
leaves p first order journal every s f h l =
    let legal : IsLegal p.job p.images journal = (h, subst (λ (x : Pair). may_all x journal ≡ true) s l) in
    record { front = subst (λ (x : Pair). walk_for (words_of order) (length journal) (walker_at x) ≡ journal) s f; legal = legal; headline = (every journal legal).0 }

pub ran_short : (ready : Result Prepared Status) (p : Prepared) (first : Pair) (order : ℕ) (write : Pair → List Event → List ℕ) (journal : List Event) (old new : Option (List ℕ)) → ready ≡ Ok p → Claimed p → first ≡ booted p
    → walk_for (words_of order) (length journal) (walker_at first) ≡ journal → shortage p.job p.images ≡ None → may_all first journal ≡ true → new ≡ old → WalkOutcome ready order write NoMemory journal old new
ran_short ready p first order write journal old new r every s f h l n = RanShort p refl r (leaves p first order journal every s f h l) n

-- ---- a job that was gathered

gathered_first : {W V : Type 0} (found : Result V Status) (f : V → Result W Status) (v : V) → found ≡ Ok v → (found >>= f) ≡ f v
gathered_first found f v e = ap (λ r. r >>= f) e

pub with_job : {W V : Type 0} (found : Result V Status) (f : V → Result W Status) (v : V) (SoFar : W → List Event → Type 0) (Bad : W → ℕ → Type 0) (Shows : W → Status → List Event → List ℕ → Type 0) (status : Status) (journal : List Event) (old new : Option (List ℕ)) →
    found ≡ Ok v → Outcome (f v) SoFar Bad Shows status journal old new → Outcome (found >>= f) SoFar Bad Shows status journal old new
with_job found f v SoFar Bad Shows status journal old new e o =
    subst (λ ready. Outcome ready SoFar Bad Shows status journal old new) (sym (gathered_first found f v e)) o

-- what a walk comes to where nothing fails
pub same_start : (ready : Result Prepared Status) (p q : Prepared) → ready ≡ Ok p → ready ≡ Ok q → p ≡ q
same_start ready p q a b = cc

pub completes : (ready : Result Prepared Status) (order : ℕ) (write : Pair → List Event → List ℕ) (status : Status) (journal : List Event) (old new : Option (List ℕ)) → WalkOutcome ready order write status journal old new → Completes ready order write status journal
completes ready order write status journal old new (Refused e j n) p r h s = (let x : Ok p ≡ Err status = sym r ∙ e in cc)
completes ready order write status journal old new (Shown w text e shows t) p r h s =
    Whole text (subst (λ (x : Prepared). ShowsWalk order write x status journal text) (same_start ready w p e r) shows)
completes ready order write status journal old new (SinkFailed w text meant e q shows t) p r h s = absurd (s e)
completes ready order write status journal old new (HostFailed e j n) p r h s = absurd (h e)
completes ready order write status journal old new (NoneStarted e j n) p r h s = Short e
completes ready order write status journal old new (RanShort w e q so n) p r h s = Short e
completes ready order write status journal old new (BadLine w line e q bad j n) p r h s = absurd bad

-- ---- a check

put_text : (ready : Result Prepared Status) (p : Prepared) (text : List ℕ) (status : Status) (old new : Option (List ℕ)) → ready ≡ Ok p → text ≡ text_of (check_parts p.job.frames p.images) → Puts Done text status old new → CheckOutcome ready status [] old new
put_text ready p text status old new r w (AllPut e t) = Shown p text r (record { ends = e; empty = refl; written = w }) t
put_text ready p text status old new r w (FrontPut e t) = SinkFailed p text Done e r (record { ends = refl; empty = refl; written = w }) t
put_text ready p text status old new r w (NonePut e n) = NoneStarted e refl n

pub put_check : (ready : Result Prepared Status) (p : Prepared) (text : Result (List ℕ) Want) (status : Status) (old new : Option (List ℕ)) → ready ≡ Ok p → IfOk text (λ t. t ≡ text_of (check_parts p.job.frames p.images)) → PutsText text Done status old new → CheckOutcome ready status [] old new
put_check ready p (Ok text) status old new r w puts = put_text ready p text status old new r w puts
put_check ready p (Err none) status old new r w puts = NoneStarted puts.0 refl puts.1

pub completes_check : (ready : Result Prepared Status) (status : Status) (journal : List Event) (old new : Option (List ℕ)) → CheckOutcome ready status journal old new → CompletesCheck ready status
completes_check ready status journal old new (Refused e j n) p r h s = (let x : Ok p ≡ Err status = sym r ∙ e in cc)
completes_check ready status journal old new (BadLine w line e q bad j n) p r h s = absurd bad
completes_check ready status journal old new (Shown w text e shows t) p r h s = inl shows.ends
completes_check ready status journal old new (SinkFailed w text meant e q shows t) p r h s = absurd (s e)
completes_check ready status journal old new (HostFailed e j n) p r h s = absurd (h e)
completes_check ready status journal old new (NoneStarted e j n) p r h s = inr e
completes_check ready status journal old new (RanShort w e q so n) p r h s = inr e
