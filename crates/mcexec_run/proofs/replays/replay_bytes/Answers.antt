use Rattle.mcexec_run.proofs.Outcomes.{refused, with_job}
use Rattle.mcexec_run.proofs.Steps.{fails_on}
use Rattle.mcexec_run.proofs.replays.replay_bytes.Goals as goal
use Rattle.mcexec_run.specs.Chain.{with_frames}
use Rattle.mcexec_run.specs.Replaying.{LeavesReplay, RefusesLine, ReplayOutcome, ShowsReplay, with_bytes, with_given}
use Rattle.mck_report.specs.declared.status.Status.{Status}
use Rattle.std.proofs.Common.{Ok, refl, subst, sym}

pub returns-in-Ok-clause-outcome : goal.returns-in-Ok-clause-outcome
returns-in-Ok-clause-outcome g c =
    with_job (with_frames c.args.p.now) (λ start. with_bytes start (Ok c.args.trace.now)) c.args.p.now LeavesReplay RefusesLine ShowsReplay c.run_trace.result.status c.run_trace.new.journal (g.S.Sink.taken c.args.sink.now) (g.S.Sink.taken c.run_trace.new.sink)
    c.in-Ok.ensures.value c.run_trace.ensures.outcome

pub returns-in-Err-clause-outcome : goal.returns-in-Err-clause-outcome
returns-in-Err-clause-outcome g c =
    let p = c.args.p.now in
    let status = c.in-Err.status in
    let old = (g.S.Sink.taken c.args.sink.now) in
    subst (λ (s : Status). ReplayOutcome (with_given c.args.trace.now p) s c.args.journal.now old old) (sym c.without_machine.ensures.status)
    (refused (with_given c.args.trace.now p) LeavesReplay RefusesLine ShowsReplay status c.args.journal.now old old c.in-Err.ensures.refusal (fails_on status (with_frames p) (λ start. with_bytes start (Ok c.args.trace.now)) c.in-Err.ensures.value)
    c.requires.empty refl)
