-- The outcome of a run on threads.
use Rattle.hybrid_model.specs.Boot.{shortage}
use Rattle.hybrid_model.specs.Journals.{IsLegal, ending, may_all, state}
use Rattle.hybrid_model.specs.Pairs.{Pair}
use Rattle.hybrid_model.specs.declared.events.Ending.TheVariants.{Unfinished}
use Rattle.hybrid_model.specs.declared.events.Event.{Event}
use Rattle.mcexec_run.proofs.Outcomes.{Claimed, refused, same_start}
use Rattle.mcexec_run.proofs.ReplayOutcomes.{is_last, is_legal}
use Rattle.mcexec_run.specs.Chain.{Fails, IsRefusal}
use Rattle.mcexec_run.specs.Outcome.{AllPut, BadLine, FrontPut, HostFailed, NoLine, NonePut, NoneStarted, Puts, RanShort, Refused, Shown, SinkFailed, booted, last_state}
use Rattle.mcexec_run.specs.Running.{CompletesRun, LeavesRun, RunOutcome, ShortRun, ShowsRun, WholeRun}
use Rattle.mcexec_run.specs.declared.chain.Prepared.{Prepared}
use Rattle.mck_report.specs.Status.{status_of}
use Rattle.mck_report.specs.declared.status.Status.TheVariants.{NoMemory}
use Rattle.mck_report.specs.declared.status.Status.{Status}
use Rattle.std.proofs.Common.{Err, List, None, Ok, Option, Result, refl, subst, sym, true, ℕ, [], ◌∙◌, ◌≡◌, ◌≢◌}

put_run : (ready : Result Prepared Status) (p : Prepared) (write : Pair → List Event → List ℕ) (journal : List Event) (status : Status) (old new : Option (List ℕ)) → ready ≡ Ok p → Claimed p
    → IsLegal p.job p.images journal → ending (last_state p journal) ≢ Unfinished
    → Puts (status_of (ending (last_state p journal))) (write (last_state p journal) journal) status old new → RunOutcome ready write status journal old new
put_run ready p write journal status old new r every l o (AllPut e t) =
    Shown p (write (last_state p journal) journal) r (record { legal = l; headline = (every journal l).0; over = o; still = (every journal l).1 o; ends = e; written = refl }) t
put_run ready p write journal status old new r every l o (FrontPut e t) =
    SinkFailed p (write (last_state p journal) journal) (status_of (ending (last_state p journal))) e r (record { legal = l; headline = (every journal l).0; over = o; still = (every journal l).1 o; ends = refl; written = refl }) t
put_run ready p write journal status old new r every l o (NonePut e n) = RanShort p e r (record { legal = l; headline = (every journal l).0 }) n

-- from the machine's state at the start and at the end
pub run_outcome : (ready : Result Prepared Status) (p : Prepared) (first end : Pair) (write : Pair → List Event → List ℕ) (journal journal' : List Event) (status : Status) (old new : Option (List ℕ)) → ready ≡ Ok p → Claimed p → first ≡ booted p
    → shortage p.job p.images ≡ None → may_all first journal ≡ true → end ≡ state first journal → ending end ≢ Unfinished → journal' ≡ journal
    → Puts (status_of (ending end)) (write end journal') status old new → RunOutcome ready write status journal old new
run_outcome ready p first end write journal journal' status old new r every s h l e o j puts =
    let whole : end ≡ last_state p journal = is_last p first end journal s e in
    put_run ready p write journal status old new r every (is_legal p first journal s h l)
    (subst (λ (x : Pair). ending x ≢ Unfinished) whole o)
    (subst (λ (x : Pair). Puts (status_of (ending x)) (write x journal) status old new) whole (subst (λ (js : List Event). Puts (status_of (ending end)) (write end js) status old new) j puts))

-- a run that memory cut off
pub run_short : (ready : Result Prepared Status) (p : Prepared) (first : Pair) (write : Pair → List Event → List ℕ) (journal : List Event) (old new : Option (List ℕ)) → ready ≡ Ok p → Claimed p → first ≡ booted p
    → shortage p.job p.images ≡ None → may_all first journal ≡ true → new ≡ old → RunOutcome ready write NoMemory journal old new
run_short ready p first write journal old new r every s h l n =
    let legal : IsLegal p.job p.images journal = is_legal p first journal s h l in RanShort p refl r (record { legal = legal; headline = (every journal legal).0 }) n

-- a refusal before the run
pub refused_run : (ready : Result Prepared Status) (write : Pair → List Event → List ℕ) (status status' : Status) (journal : List Event) (old : Option (List ℕ)) → IsRefusal status → Fails status ready → status' ≡ status → journal ≡ []
    → RunOutcome ready write status' journal old old
refused_run ready write status status' journal old r f s j =
    subst (λ (x : Status). RunOutcome ready write x journal old old) (sym s) (refused ready LeavesRun NoLine (ShowsRun write) status journal old old r f j refl)

pub completes_run : (ready : Result Prepared Status) (write : Pair → List Event → List ℕ) (status : Status) (journal : List Event) (old new : Option (List ℕ)) → RunOutcome ready write status journal old new → CompletesRun ready write status journal
completes_run ready write status journal old new (Refused e j n) p r h s = (let x : Ok p ≡ Err status = sym r ∙ e in cc)
completes_run ready write status journal old new (BadLine w line e q bad j n) p r h s = absurd bad
completes_run ready write status journal old new (Shown w text e shows t) p r h s =
    WholeRun text (subst (λ (x : Prepared). ShowsRun write x status journal text) (same_start ready w p e r) shows)
completes_run ready write status journal old new (SinkFailed w text meant e q shows t) p r h s = absurd (s e)
completes_run ready write status journal old new (HostFailed e j n) p r h s = absurd (h e)
completes_run ready write status journal old new (NoneStarted e j n) p r h s = ShortRun e
completes_run ready write status journal old new (RanShort w e q so n) p r h s = ShortRun e
