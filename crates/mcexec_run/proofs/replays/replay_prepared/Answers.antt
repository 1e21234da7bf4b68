use Rattle.mcexec_run.proofs.ReplayOutcomes.{completes_replay}
use Rattle.mcexec_run.proofs.replays.replay_prepared.Goals as goal
use Rattle.mcexec_run.specs.Replaying.{with_given}

pub returns-clause-complete : goal.returns-clause-complete
returns-clause-complete g c =
    completes_replay (with_given c.args.trace.now c.args.p.now) c.replay_bytes-replayed.result.status c.replay_bytes-replayed.new.journal (g.S.Sink.taken c.args.sink.now) (g.S.Sink.taken c.replay_bytes-replayed.new.sink)
    c.replay_bytes-replayed.ensures.outcome
