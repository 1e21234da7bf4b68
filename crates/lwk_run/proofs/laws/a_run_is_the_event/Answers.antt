use Rattle.lwk_run.proofs.RunEvents.{event-after, event-length}
use Rattle.lwk_run.proofs.laws.a_run_is_the_event.Goals as goal

pub returns-clause-after : goal.returns-clause-after
returns-clause-after c = event-after

pub returns-clause-count : goal.returns-clause-count
returns-clause-count c = event-length
