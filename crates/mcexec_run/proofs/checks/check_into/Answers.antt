use Rattle.mcexec_run.proofs.Outcomes.{put_check, refused}
use Rattle.mcexec_run.proofs.checks.check_into.Goals as goal
use Rattle.mcexec_run.specs.Chain.{with_frames}
use Rattle.mcexec_run.specs.Outcome.{NoLine, ShowsCheck}
use Rattle.std.proofs.Common.{[], arith, refl, ◌≡◌}

pub check-requires-clause-count : goal.check-requires-clause-count
check-requires-clause-count g c = rw c.as_slice.ensures (omega (arith, c.requires.one_each, c.requires.guests.1))

pub check-requires-clause-images : goal.check-requires-clause-images
check-requires-clause-images g c = rw c.as_slice.ensures c.requires.loaded

pub returns-in-Ok-clause-outcome : goal.returns-in-Ok-clause-outcome
returns-in-Ok-clause-outcome g c =
    put_check (with_frames c.args.p.now) c.args.p.now c.check.result c.write.result (g.S.Sink.taken c.args.sink.now) (g.S.Sink.taken c.write.new.sink) c.in-Ok.ensures.value (rw c.as_slice.ensures at c.check.ensures) c.write.ensures.puts

pub returns-in-Err-clause-outcome : goal.returns-in-Err-clause-outcome
returns-in-Err-clause-outcome g c =
    refused (with_frames c.args.p.now) (λ _ left. left ≡ []) NoLine ShowsCheck c.in-Err.status [] (g.S.Sink.taken c.args.sink.now) (g.S.Sink.taken c.args.sink.now) c.in-Err.ensures.refusal c.in-Err.ensures.value refl refl
