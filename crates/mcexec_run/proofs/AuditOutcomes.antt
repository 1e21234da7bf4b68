-- The outcome of an audit, from that of a replay.
use Rattle.hybrid_model.specs.Journals.{ending}
use Rattle.hybrid_model.specs.Pairs.{Pair}
use Rattle.hybrid_model.specs.Shown.{one}
use Rattle.hybrid_model.specs.declared.events.Event.{Event}
use Rattle.kernel_model.specs.OneKernel.{OneKernel}
use Rattle.mcexec_run.specs.Audits.{AuditOutcome, ShowsAudit, SingleRun, single_state}
use Rattle.mcexec_run.specs.Outcome.{BadLine, HostFailed, NoneStarted, RanShort, Refused, Shown, SinkFailed, last_state}
use Rattle.mcexec_run.specs.Replaying.{LedTo, ReplayOutcome, ShowsReplay, Traced, ran_whole}
use Rattle.mcexec_run.specs.declared.chain.Prepared.{Prepared}
use Rattle.mck_report.specs.declared.status.Status.{Status}
use Rattle.run_model.specs.Reports.{report_parts, requests}
use Rattle.run_model.specs.Texts.{text_of}
use Rattle.std.proofs.Common.{IfSome, List, None, Ok, Option, Result, Some, ap, false, is_some, refl, sym, true, ℕ, ◌∙◌, ◌≡◌}
use Rattle.std.specs.Option.{option_map}

-- the report of the state that the two kernels show is the report of the one-kernel machine's state
shows_audit : (t : Traced) (status : Status) (journal : List Event) (text : List ℕ) → ShowsReplay t status journal text → ShowsAudit t status journal text
shows_audit t status journal text shows = record {
  replayed = shows;
  printed = (let last = last_state t.start journal in
      shows.written ∙ ap (λ (o : OneKernel). text_of (report_parts o (ending last) (requests last) journal)) (sym shows.headline.simulated.leaves));
}

pub audit_outcome : (ready : Result Traced Status) (status : Status) (journal : List Event) (old new : Option (List ℕ)) → ReplayOutcome ready status journal old new → AuditOutcome ready status journal old new
audit_outcome ready status journal old new (Refused e j n) = Refused e j n
audit_outcome ready status journal old new (BadLine w line e r bad j n) = BadLine w line e r bad j n
audit_outcome ready status journal old new (Shown w text r shows took) = Shown w text r (shows_audit w status journal text shows) took
audit_outcome ready status journal old new (SinkFailed w text meant e r shows took) = SinkFailed w text meant e r (shows_audit w meant journal text shows) took
audit_outcome ready status journal old new (HostFailed e j n) = HostFailed e j n
audit_outcome ready status journal old new (NoneStarted e j n) = NoneStarted e j n
audit_outcome ready status journal old new (RanShort w e r so n) = RanShort w e r so n

-- ---- the machine

-- the one-kernel machine of two that go in step
single_is : {L : Type 0} (o : Option L) (of : L → OneKernel) (pair : L → Pair) (p : Prepared) (journal : List Event) → ((x : L) → of x ≡ one (pair x)) → is_some o ≡ true → IfSome o (λ x. LedTo p journal (pair x))
    → option_map of o ≡ Some (single_state p journal)
single_is None of pair p journal same e led = cc
single_is (Some x) of pair p journal same e led = ap (λ y. Some y) (same x ∙ (ap one led.last ∙ sym led.headline.simulated.leaves))

none_is : {L : Type 0} (o : Option L) (of : L → OneKernel) → is_some o ≡ false → option_map of o ≡ None
none_is None of e = refl
none_is (Some x) of e = cc

pub map_twice : {L V W : Type 0} (o : Option L) (f : L → V) (h : V → W) → option_map h (option_map f o) ≡ option_map (λ x. h (f x)) o
map_twice None f h = refl
map_twice (Some x) f h = refl

pub single_run : {L : Type 0} (o : Option L) (of : L → OneKernel) (pair : L → Pair) (ready : Result Traced Status) (status : Status) (journal : List Event) → ((x : L) → of x ≡ one (pair x))
    → is_some o ≡ ran_whole status → ((t : Traced) → ready ≡ Ok t → IfSome o (λ x. LedTo t.start journal (pair x))) → SingleRun ready status journal (option_map of o)
single_run o of pair ready status journal same some led = record {
  whole = λ t r w. single_is o of pair t.start journal same (some ∙ w) (led t r);
  none = λ w. none_is o of (some ∙ w);
}
