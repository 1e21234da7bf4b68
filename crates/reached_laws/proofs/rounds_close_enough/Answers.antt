use Rattle.reached_laws.proofs.Rounds.{closes-taken, has-owner}
use Rattle.reached_laws.proofs.rounds_close_enough.Goals as goal

pub returns-clause-owned : goal.returns-clause-owned
returns-clause-owned c = λ job imgs journal p phase closed prepared legal e. has-owner job imgs journal prepared legal p phase closed e

pub returns-clause-closed : goal.returns-clause-closed
returns-clause-closed c = λ job imgs journal p t change closed number page prepared legal h there k. closes-taken job imgs journal prepared legal p t change closed number page h k
