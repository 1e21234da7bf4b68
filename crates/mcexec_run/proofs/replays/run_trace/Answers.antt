use Rattle.mcexec_run.proofs.Outcomes.{claimed}
use Rattle.mcexec_run.proofs.ReplayOutcomes.{replay_bad, replay_outcome, replay_short}
use Rattle.mcexec_run.proofs.replays.run_trace.Goals as goal
use Rattle.mcexec_run.specs.Replaying.{ReplayOutcome, Traced}
use Rattle.mck_report.specs.declared.status.Status.{Status}
use Rattle.std.proofs.Common.{Err, Ok, ap, subst, sym}

pub returns-in-Ok-clause-outcome : goal.returns-in-Ok-clause-outcome
returns-in-Ok-clause-outcome g c =
    let t : Traced = record { start = c.args.p.now; trace = c.args.trace.now } in
    let every = claimed c.args.p.now (λ journal legal. c.every_legal_journal.ensures c.args.p.now.job c.args.p.now.images journal c.requires.prepared legal) c.the_candidates_stand_for_all.ensures.over in
    subst (λ (s : Status). ReplayOutcome (Ok t) s c.replay_trace.new.journal (g.S.Sink.taken c.args.sink.now) (g.S.Sink.taken c.show-status.new.sink)) (sym c.with_machine.ensures.status)
    (replay_outcome t (g.M.Offers.pair c.args.machine) (g.M.Offers.pair c.replay_trace.new.machine) c.replay_trace.new.journal c.as_slice.result.now c.show-status.result (g.S.Sink.taken c.args.sink.now) (g.S.Sink.taken c.show-status.new.sink)
    every c.requires.booted c.requires.frames c.in-Ok.ensures.spelled c.replay_trace.ensures.legal c.replay_trace.ensures.state c.as_slice.ensures c.show-status.ensures.puts)

pub returns-in-Err-Line-clause-outcome : goal.returns-in-Err-Line-clause-outcome
returns-in-Err-Line-clause-outcome g c =
    let t : Traced = record { start = c.args.p.now; trace = c.args.trace.now } in
    subst (λ (s : Status). ReplayOutcome (Ok t) s c.new.result (g.S.Sink.taken c.args.sink.now) (g.S.Sink.taken c.args.sink.now)) (sym c.without_machine.ensures.status)
    (replay_bad t (g.M.Offers.pair c.args.machine) c.in-Err-Line.line c.new.result (g.S.Sink.taken c.args.sink.now) c.requires.booted (c.in-Err-Line.ensures.refused c.in-Err-Line.line (ap (λ e. Err e) c.in-Err-Line.field-0-is)) c.new.ensures)

pub returns-clause-outcome : goal.returns-clause-outcome
returns-clause-outcome g c =
    let t : Traced = record { start = c.args.p.now; trace = c.args.trace.now } in
    let every = claimed c.args.p.now (λ journal legal. c.every_legal_journal.ensures c.args.p.now.job c.args.p.now.images journal c.requires.prepared legal) c.the_candidates_stand_for_all.ensures.over in
    subst (λ (s : Status). ReplayOutcome (Ok t) s c.replay_trace.new.journal (g.S.Sink.taken c.args.sink.now) (g.S.Sink.taken c.args.sink.now)) (sym c.without_machine-in-Err-NoMemory.ensures.status)
    (replay_short t (g.M.Offers.pair c.args.machine) c.replay_trace.new.journal (g.S.Sink.taken c.args.sink.now) every c.requires.booted c.requires.frames
    (c.in-Err-NoMemory.ensures.front (ap (λ e. Err e) c.in-Err-NoMemory.field-0-is)) c.replay_trace.ensures.legal)
