use Rattle.reached_laws.proofs.Executed.{begins-with-none, event-counts, journal-counts}
use Rattle.reached_laws.proofs.instructions_are_counted.Goals as goal

pub returns-clause-begins : goal.returns-clause-begins
returns-clause-begins c = λ job imgs. begins-with-none job imgs

pub returns-clause-each : goal.returns-clause-each
returns-clause-each c = λ pair e coherent m. event-counts pair coherent e m

pub returns-clause-journal : goal.returns-clause-journal
returns-clause-journal c = λ job imgs journal prepared legal. journal-counts job imgs journal prepared legal
