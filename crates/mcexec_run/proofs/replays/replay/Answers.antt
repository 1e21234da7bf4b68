use Rattle.mcexec_run.proofs.ReplayOutcomes.{completes_replay}
use Rattle.mcexec_run.proofs.replays.replay.Goals as goal
use Rattle.mcexec_run.specs.Given.{traced_given}
use Rattle.mcexec_run.specs.Replaying.{traced}

pub returns-clause-complete : goal.returns-clause-complete
returns-clause-complete g c held told =
    completes_replay (traced held c.args.job.now c.args.trace.now) c.replay_job-replayed.result.status c.replay_job-replayed.new.journal (g.S.Sink.taken c.args.sink.now) (g.S.Sink.taken c.replay_job-replayed.new.sink)
    (c.replay_job-replayed.ensures.outcome held told)

pub returns-clause-given : goal.returns-clause-given
returns-clause-given g c =
    let w = c.replay_job-replayed.ensures.given in (
      w.0,
      w.1,
      (
        w.2.0,
        completes_replay (traced_given w.0 w.1) c.replay_job-replayed.result.status c.replay_job-replayed.new.journal (g.S.Sink.taken c.args.sink.now) (g.S.Sink.taken c.replay_job-replayed.new.sink) w.2.0,
      ),
    )
