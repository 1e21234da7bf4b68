use Rattle.kernel_model.specs.OneKernel.{OneKernel}
use Rattle.mcexec_run.proofs.AuditOutcomes.{audit_outcome, map_twice, single_run}
use Rattle.mcexec_run.proofs.ReplayOutcomes.{completes_replay, start_of}
use Rattle.mcexec_run.proofs.audits.audit_prepared.Goals as goal
use Rattle.mcexec_run.specs.Audits.{SingleRun}
use Rattle.mcexec_run.specs.Replaying.{LedTo, with_given}
use Rattle.mcexec_run.specs.declared.chain.Prepared.{Prepared}
use Rattle.std.proofs.Common.{IfSome, Option, ap, subst, sym, ◌∙◌}
use Rattle.std.specs.Option.{option_map}

pub returns-clause-outcome : goal.returns-clause-outcome
returns-clause-outcome g c =
    audit_outcome (with_given c.args.trace.now c.args.p.now) c.replay_bytes-replayed.result.status c.replay_bytes-replayed.new.journal (g.S.Sink.taken c.args.sink.now) (g.S.Sink.taken c.replay_bytes-replayed.new.sink)
    c.replay_bytes-replayed.ensures.outcome

pub returns-clause-machine : goal.returns-clause-machine
returns-clause-machine g c =
    let both = c.replay_bytes-replayed.result.machine in
    let journal = c.replay_bytes-replayed.new.journal in
    let p = c.args.p.now in
    subst (λ (o : Option OneKernel). SingleRun (with_given c.args.trace.now p) c.replay_bytes-replayed.result.status journal o)
    (sym (ap (option_map g.O.SingleKernel.one) c.single_of.ensures ∙ map_twice both (λ x. x.single) g.O.SingleKernel.one))
    (single_run both (λ x. g.O.SingleKernel.one x.single) (λ x. g.M.Offers.pair x.machine) (with_given c.args.trace.now p) c.replay_bytes-replayed.result.status journal (λ x. x.same) c.replay_bytes-replayed.ensures.hands_out
    (λ t r. subst (λ (q : Prepared). IfSome both (λ m. LedTo q journal (g.M.Offers.pair m.machine))) (sym (start_of c.args.trace.now p t r)) c.replay_bytes-replayed.ensures.machine))

pub returns-clause-complete : goal.returns-clause-complete
returns-clause-complete g c =
    completes_replay (with_given c.args.trace.now c.args.p.now) c.replay_bytes-replayed.result.status c.replay_bytes-replayed.new.journal (g.S.Sink.taken c.args.sink.now) (g.S.Sink.taken c.replay_bytes-replayed.new.sink)
    c.replay_bytes-replayed.ensures.outcome
