use Rattle.mcexec_run.proofs.Outcomes.{refused}
use Rattle.mcexec_run.proofs.ReplayOutcomes.{found_trace, no_trace}
use Rattle.mcexec_run.proofs.Steps.{fails_on}
use Rattle.mcexec_run.proofs.replays.replay_into.Goals as goal
use Rattle.mcexec_run.specs.Chain.{fetched, with_frames}
use Rattle.mcexec_run.specs.Given.{only}
use Rattle.mcexec_run.specs.Replaying.{LeavesReplay, RefusesLine, ReplayOutcome, ShowsReplay, with_bytes, with_trace}
use Rattle.mck_report.specs.declared.status.Status.{Status}
use Rattle.std.proofs.Common.{List, None, Ok, refl, subst, sym, ℕ, [], ◌≡◌}

pub returns-in-Ok-fetch_name-clause-outcome : goal.returns-in-Ok-fetch_name-clause-outcome
returns-in-Ok-fetch_name-clause-outcome g c held told =
    let p = c.args.p.now in
    let bytes = c.in-Ok-fetch_name.bytes.items in
    let found : fetched (held c.args.trace.now) ≡ Ok bytes = subst (λ (n : List ℕ). fetched (held n) ≡ Ok bytes) c.as_bytes.ensures.value (c.in-Ok-fetch_name.ensures.value held told) in
    found_trace held c.args.trace.now bytes p c.run_trace.result.status c.run_trace.new.journal (g.S.Sink.taken c.args.sink.now) (g.S.Sink.taken c.run_trace.new.sink) c.in-Ok.ensures.value found
    (subst (λ (b : List ℕ). ReplayOutcome (Ok (record { start = p; trace = b })) c.run_trace.result.status c.run_trace.new.journal (g.S.Sink.taken c.args.sink.now) (g.S.Sink.taken c.run_trace.new.sink)) c.deref.ensures.value c.run_trace.ensures.outcome)

pub returns-in-Ok-fetch_name-clause-given : goal.returns-in-Ok-fetch_name-clause-given
returns-in-Ok-fetch_name-clause-given g c =
    let p = c.args.p.now in
    let bytes = c.in-Ok-fetch_name.bytes.items in
    let w = c.in-Ok-fetch_name.ensures.given in (
      w.0,
      found_trace (only w.0) [] bytes p c.run_trace.result.status c.run_trace.new.journal (g.S.Sink.taken c.args.sink.now) (g.S.Sink.taken c.run_trace.new.sink) c.in-Ok.ensures.value w.1
          (subst (λ (b : List ℕ). ReplayOutcome (Ok (record { start = p; trace = b })) c.run_trace.result.status c.run_trace.new.journal (g.S.Sink.taken c.args.sink.now) (g.S.Sink.taken c.run_trace.new.sink)) c.deref.ensures.value c.run_trace.ensures.outcome),
    )

pub returns-in-Err-fetch_name-clause-given : goal.returns-in-Err-fetch_name-clause-given
returns-in-Err-fetch_name-clause-given g c =
    let p = c.args.p.now in
    let w = c.in-Err-fetch_name.ensures.given in
    let status = c.in-Err-fetch_name.status in
    let old = (g.S.Sink.taken c.args.sink.now) in (
      w.0,
      subst (λ (s : Status). ReplayOutcome (with_trace (only w.0) [] p) s c.args.journal.now old old) (sym c.without_machine-in-Err-fetch_name.ensures.status)
          (refused (with_trace (only w.0) [] p) LeavesReplay RefusesLine ShowsReplay status c.args.journal.now old old c.in-Err-fetch_name.ensures.refusal (no_trace (only w.0) [] p status c.in-Ok.ensures.value w.1) c.requires.empty refl),
    )

pub returns-in-Err-clause-given : goal.returns-in-Err-clause-given
returns-in-Err-clause-given g c =
    let p = c.args.p.now in
    let status = c.in-Err.status in
    let old = (g.S.Sink.taken c.args.sink.now) in (
      None,
      subst (λ (s : Status). ReplayOutcome (with_trace (only None) [] p) s c.args.journal.now old old) (sym c.without_machine.ensures.status)
          (refused (with_trace (only None) [] p) LeavesReplay RefusesLine ShowsReplay status c.args.journal.now old old c.in-Err.ensures.refusal (fails_on status (with_frames p) (λ start. with_bytes start (fetched None)) c.in-Err.ensures.value) c.requires.empty refl),
    )
