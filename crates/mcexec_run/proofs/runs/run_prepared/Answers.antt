use Rattle.mcexec_run.proofs.Outcomes.{claimed}
use Rattle.mcexec_run.proofs.RunOutcomes.{completes_run, refused_run, run_outcome, run_short}
use Rattle.mcexec_run.proofs.runs.run_prepared.Goals as goal
use Rattle.mcexec_run.specs.Chain.{with_frames}
use Rattle.mcexec_run.specs.Outcome.{text_at}
use Rattle.mck_report.specs.declared.status.Status.TheVariants.{NoMemory}
use Rattle.std.proofs.Common.{refl}

pub returns-in-Over-clause-outcome : goal.returns-in-Over-clause-outcome
returns-in-Over-clause-outcome g c =
    let every = claimed c.args.p.now (λ journal legal. c.every_legal_journal.ensures c.args.p.now.job c.args.p.now.images journal c.requires legal) c.the_candidates_stand_for_all.ensures.over in
    run_outcome (with_frames c.args.p.now) c.args.p.now (g.M.Offers.pair c.in-Ok.machine) (g.M.Offers.pair c.run_machine-machine.result.machine) (text_at c.args.form) c.run_machine-machine.result.journal c.as_slice.result.now c.show-status.result
    (g.S.Sink.taken c.args.sink.now) (g.S.Sink.taken c.show-status.new.sink) c.in-Ok.ensures.value every c.in-Ok.ensures.state c.in-Ok.ensures.frames c.run_machine-machine.ensures.legal c.run_machine-machine.ensures.state (c.run_machine-machine.ensures.over c.in-Over.is) c.as_slice.ensures c.show-status.ensures.puts

pub returns-in-Over-clause-complete : goal.returns-in-Over-clause-complete
returns-in-Over-clause-complete g c =
    completes_run (with_frames c.args.p.now) (text_at c.args.form) c.show-status.result c.run_machine-machine.result.journal (g.S.Sink.taken c.args.sink.now) (g.S.Sink.taken c.show-status.new.sink) (returns-in-Over-clause-outcome g c)

pub returns-clause-outcome : goal.returns-clause-outcome
returns-clause-outcome g c =
    let every = claimed c.args.p.now (λ journal legal. c.every_legal_journal.ensures c.args.p.now.job c.args.p.now.images journal c.requires legal) c.the_candidates_stand_for_all.ensures.over in
    run_short (with_frames c.args.p.now) c.args.p.now (g.M.Offers.pair c.in-Ok.machine) (text_at c.args.form) c.run_machine-machine.result.journal (g.S.Sink.taken c.args.sink.now) (g.S.Sink.taken c.args.sink.now)
    c.in-Ok.ensures.value every c.in-Ok.ensures.state c.in-Ok.ensures.frames c.run_machine-machine.ensures.legal refl

pub returns-clause-complete : goal.returns-clause-complete
returns-clause-complete g c =
    completes_run (with_frames c.args.p.now) (text_at c.args.form) NoMemory c.run_machine-machine.result.journal (g.S.Sink.taken c.args.sink.now) (g.S.Sink.taken c.args.sink.now) (returns-clause-outcome g c)

pub returns-in-Err-clause-outcome : goal.returns-in-Err-clause-outcome
returns-in-Err-clause-outcome g c =
    refused_run (with_frames c.args.p.now) (text_at c.args.form) c.in-Err.status c.nothing_kept.result.status c.nothing_kept.result.journal (g.S.Sink.taken c.args.sink.now) c.in-Err.ensures.refusal c.in-Err.ensures.value
    c.nothing_kept.ensures.status c.nothing_kept.ensures.journal

pub returns-in-Err-clause-complete : goal.returns-in-Err-clause-complete
returns-in-Err-clause-complete g c =
    completes_run (with_frames c.args.p.now) (text_at c.args.form) c.nothing_kept.result.status c.nothing_kept.result.journal (g.S.Sink.taken c.args.sink.now) (g.S.Sink.taken c.args.sink.now) (returns-in-Err-clause-outcome g c)
