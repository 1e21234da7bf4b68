use Rattle.mcexec_run.proofs.GivenAnswers.{start_given}
use Rattle.mcexec_run.proofs.Outcomes.{refused, with_job}
use Rattle.mcexec_run.proofs.Steps.{fails_on, in_back, in_head, rose_last}
use Rattle.mcexec_run.proofs.replays.replay_job.Goals as goal
use Rattle.mcexec_run.specs.Chain.{gathered, has_to_fetch}
use Rattle.mcexec_run.specs.Given.{gathered_given, only, traced_given}
use Rattle.mcexec_run.specs.Replaying.{LeavesReplay, LedTo, RefusesLine, ReplayOutcome, ShowsReplay, has_to_fetch_both, with_trace}
use Rattle.mcexec_run.specs.declared.chain.Prepared.{Prepared}
use Rattle.mck_report.specs.declared.status.Status.{Status}
use Rattle.std.proofs.Common.{IfSome, None, [], refl, subst, sym, ◌∙◌, ◌∷◌}

pub returns-in-Ok-clause-outcome : goal.returns-in-Ok-clause-outcome
returns-in-Ok-clause-outcome g c held told =
    with_job (gathered held c.args.job.now) (with_trace held c.args.trace.now) c.in-Ok.p LeavesReplay RefusesLine ShowsReplay c.replay_into.result.status c.replay_into.new.journal (g.S.Sink.taken c.args.sink.now) (g.S.Sink.taken c.replay_into.new.sink)
    (c.in-Ok.ensures.value held told) (c.replay_into.ensures.outcome held (c.gather.ensures.goes_on.told ∙ told))

pub returns-in-Ok-clause-host_fault : goal.returns-in-Ok-clause-host_fault
returns-in-Ok-clause-host_fault g c held told at_fault =
    let trace = c.args.trace.now in
    rose_last g.H.Host.faults c.args.host.now c.gather.new.host c.replay_into.new.host (has_to_fetch_both held c.args.job.now trace) trace (c.gather.ensures.goes_on.rises trace)
    (in_back (has_to_fetch held c.args.job.now) (trace ∷ []) trace (in_head [] trace)) (c.replay_into.ensures.host_fault at_fault)

pub returns-in-Ok-clause-given : goal.returns-in-Ok-clause-given
returns-in-Ok-clause-given g c =
    let w = c.in-Ok.ensures.given in
    let t = c.replay_into.ensures.given in (
      w.0,
      t.0,
      (
        with_job (gathered_given w.0) (with_trace (only t.0) []) c.in-Ok.p LeavesReplay RefusesLine ShowsReplay c.replay_into.result.status c.replay_into.new.journal (g.S.Sink.taken c.args.sink.now) (g.S.Sink.taken c.replay_into.new.sink) w.1 t.1,
        λ u r. subst (λ (q : Prepared). IfSome c.replay_into.result.machine (λ m. LedTo q c.replay_into.new.journal (g.M.Offers.pair m))) (sym (start_given w.0 t.0 c.in-Ok.p u w.1 r)) c.replay_into.ensures.machine,
      ),
    )

pub returns-in-Err-clause-given : goal.returns-in-Err-clause-given
returns-in-Err-clause-given g c =
    let w = c.in-Err.ensures.given in
    let status = c.in-Err.status in
    let old = (g.S.Sink.taken c.args.sink.now) in (
      w.0,
      None,
      (
        subst (λ (s : Status). ReplayOutcome (traced_given w.0 None) s c.args.journal.now old old) (sym c.without_machine.ensures.status)
            (refused (traced_given w.0 None) LeavesReplay RefusesLine ShowsReplay status c.args.journal.now old old c.in-Err.ensures.refusal (fails_on status (gathered_given w.0) (with_trace (only None) []) w.1) c.requires refl),
        λ u r. rw c.without_machine.ensures.machine tt,
      ),
    )
