use Rattle.kernel_model.specs.OneKernel.{OneKernel}
use Rattle.mcexec_run.proofs.AuditOutcomes.{audit_outcome, map_twice, single_run}
use Rattle.mcexec_run.proofs.ReplayOutcomes.{completes_replay}
use Rattle.mcexec_run.proofs.audits.audit.Goals as goal
use Rattle.mcexec_run.specs.Audits.{SingleRun}
use Rattle.mcexec_run.specs.Given.{traced_given}
use Rattle.mcexec_run.specs.Replaying.{traced}
use Rattle.std.proofs.Common.{Option, ap, subst, sym, ◌∙◌}
use Rattle.std.specs.Option.{option_map}

pub returns-clause-outcome : goal.returns-clause-outcome
returns-clause-outcome g c held told =
    audit_outcome (traced held c.args.job.now c.args.trace.now) c.replay_job-replayed.result.status c.replay_job-replayed.new.journal (g.S.Sink.taken c.args.sink.now) (g.S.Sink.taken c.replay_job-replayed.new.sink)
    (c.replay_job-replayed.ensures.outcome held told)

pub returns-clause-machine : goal.returns-clause-machine
returns-clause-machine g c held told =
    let both = c.replay_job-replayed.result.machine in
    subst (λ (o : Option OneKernel). SingleRun (traced held c.args.job.now c.args.trace.now) c.replay_job-replayed.result.status c.replay_job-replayed.new.journal o)
    (sym (ap (option_map g.O.SingleKernel.one) c.single_of.ensures ∙ map_twice both (λ x. x.single) g.O.SingleKernel.one))
    (single_run both (λ x. g.O.SingleKernel.one x.single) (λ x. g.M.Offers.pair x.machine) (traced held c.args.job.now c.args.trace.now) c.replay_job-replayed.result.status c.replay_job-replayed.new.journal (λ x. x.same)
    c.replay_job-replayed.ensures.hands_out (c.replay_job-replayed.ensures.machine held told))

pub returns-clause-complete : goal.returns-clause-complete
returns-clause-complete g c held told =
    completes_replay (traced held c.args.job.now c.args.trace.now) c.replay_job-replayed.result.status c.replay_job-replayed.new.journal (g.S.Sink.taken c.args.sink.now) (g.S.Sink.taken c.replay_job-replayed.new.sink)
    (c.replay_job-replayed.ensures.outcome held told)

pub returns-clause-given : goal.returns-clause-given
returns-clause-given g c =
    let both = c.replay_job-replayed.result.machine in
    let w = c.replay_job-replayed.ensures.given in
    let ready = traced_given w.0 w.1 in
    let status = c.replay_job-replayed.result.status in
    let journal = c.replay_job-replayed.new.journal in
    let new = g.S.Sink.taken c.replay_job-replayed.new.sink in (
      w.0,
      w.1,
      (
        audit_outcome ready status journal (g.S.Sink.taken c.args.sink.now) new w.2.0,
        subst (λ (o : Option OneKernel). SingleRun ready status journal o) (sym (ap (option_map g.O.SingleKernel.one) c.single_of.ensures ∙ map_twice both (λ x. x.single) g.O.SingleKernel.one))
            (single_run both (λ x. g.O.SingleKernel.one x.single) (λ x. g.M.Offers.pair x.machine) ready status journal (λ x. x.same) c.replay_job-replayed.ensures.hands_out w.2.1),
        completes_replay ready status journal (g.S.Sink.taken c.args.sink.now) new w.2.0,
      ),
    )
