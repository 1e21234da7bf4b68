-- What the program's call comes to, command by command: each has the clauses of its call. The second word is the job's name, the third the
-- trace's.
use Rattle.hybrid_model.specs.declared.events.Event.{Event}
use Rattle.kernel_model.specs.OneKernel.{OneKernel}
use Rattle.mcexec_run.specs.Audits.{AuditOutcome, SingleRun}
use Rattle.mcexec_run.specs.Chain.{has_to_fetch, prepared}
use Rattle.mcexec_run.specs.Given.{Given, GivenTraced}
use Rattle.mcexec_run.specs.Growing.{GrowOutcome, grow_text, grown}
use Rattle.mcexec_run.specs.Outcome.{Answers, CheckOutcome, Completes, CompletesCheck, WalkOutcome, text_at}
use Rattle.mcexec_run.specs.Replaying.{CompletesReplay, ReplayOutcome, has_to_fetch_both, ran_whole, traced}
use Rattle.mcexec_run.specs.Running.{CompletesRun, RunOutcome}
use Rattle.mcexec_run.specs.declared.command.Command.TheVariants.{Audit, Check, Grow, Replay, Run, Walk}
use Rattle.mcexec_run.specs.declared.command.Command.{Command}
use Rattle.mck_report.specs.declared.status.Status.TheVariants.{BadWords}
use Rattle.mck_report.specs.declared.status.Status.{Status}
use Rattle.outside.specs.Outside.{Held}
use Rattle.std.specs.Prelude.{◌≡◌, Bool, List, [], ℕ, Option, Some, None, Ok, false}

abbrev pub CallOutcome : Option Command → List ℕ → List ℕ → Held → Status → List Event → Option (List ℕ) → Option (List ℕ) → Type 0
CallOutcome None job trace held status journal old new = Answers BadWords status journal old new
CallOutcome (Some (Walk order form)) job trace held status journal old new = WalkOutcome (prepared held job) order (text_at form) status journal old new
CallOutcome (Some Check) job trace held status journal old new = CheckOutcome (prepared held job) status journal old new
CallOutcome (Some (Run form)) job trace held status journal old new = RunOutcome (prepared held job) (text_at form) status journal old new
CallOutcome (Some Replay) job trace held status journal old new = ReplayOutcome (traced held job trace) status journal old new
CallOutcome (Some Audit) job trace held status journal old new = AuditOutcome (traced held job trace) status journal old new
CallOutcome (Some (Grow guests order)) job trace held status journal old new = GrowOutcome guests order status journal old new

-- what answers where nothing refuses and no fault comes
abbrev pub CallCompletes : Option Command → List ℕ → List ℕ → Held → Status → List Event → Type 0
CallCompletes (Some (Walk order form)) job trace held status journal = Completes (prepared held job) order (text_at form) status journal
CallCompletes (Some (Run form)) job trace held status journal = CompletesRun (prepared held job) (text_at form) status journal
CallCompletes (Some Check) job trace held status journal = CompletesCheck (prepared held job) status
CallCompletes (Some Replay) job trace held status journal = CompletesReplay (traced held job trace) status journal
CallCompletes (Some Audit) job trace held status journal = CompletesReplay (traced held job trace) status journal
CallCompletes (Some (Grow guests order)) job trace held status journal = Completes (Ok (grown guests)) order (grow_text guests) status journal
CallCompletes _ job trace held status journal = Unit {0}

-- the names that a command has to fetch
abbrev pub names_to_fetch : Option Command → List ℕ → List ℕ → Held → List (List ℕ)
names_to_fetch (Some (Walk order form)) job trace held = has_to_fetch held job
names_to_fetch (Some (Run form)) job trace held = has_to_fetch held job
names_to_fetch (Some Check) job trace held = has_to_fetch held job
names_to_fetch (Some Replay) job trace held = has_to_fetch_both held job trace
names_to_fetch (Some Audit) job trace held = has_to_fetch_both held job trace
names_to_fetch _ job trace held = []

-- whether the one-kernel machine is handed out
abbrev pub hands_out : Option Command → Status → Bool
hands_out (Some Audit) status = ran_whole status
hands_out _ status = false

-- the one-kernel machine that is handed out: that of an audit
abbrev pub CallMachine : Option Command → List ℕ → List ℕ → Held → Status → List Event → Option OneKernel → Type 0
CallMachine (Some Audit) job trace held status journal machine = SingleRun (traced held job trace) status journal machine
CallMachine _ job trace held status journal machine = machine ≡ None

-- All of this whatever the host is, also one that tells nothing: of what some answers to the call's fetches come to. A growing job and
-- words that fit no command fetch nothing.
abbrev pub CallGiven : Option Command → Status → List Event → Option OneKernel → Option (List ℕ) → Option (List ℕ) → Type 0
CallGiven None status journal machine old new = Answers BadWords status journal old new
CallGiven (Some (Walk order form)) status journal machine old new =
    Given (λ ready. WalkOutcome ready order (text_at form) status journal old new × Completes ready order (text_at form) status journal)
CallGiven (Some Check) status journal machine old new = Given (λ ready. CheckOutcome ready status journal old new × CompletesCheck ready status)
CallGiven (Some (Run form)) status journal machine old new =
    Given (λ ready. RunOutcome ready (text_at form) status journal old new × CompletesRun ready (text_at form) status journal)
CallGiven (Some Replay) status journal machine old new = GivenTraced (λ ready. ReplayOutcome ready status journal old new × CompletesReplay ready status journal)
CallGiven (Some Audit) status journal machine old new =
    GivenTraced (λ ready. AuditOutcome ready status journal old new × SingleRun ready status journal machine × CompletesReplay ready status journal)
CallGiven (Some (Grow guests order)) status journal machine old new =
    GrowOutcome guests order status journal old new × Completes (Ok (grown guests)) order (grow_text guests) status journal
