use Rattle.offer_laws.proofs.every_walk.Goals as goal
use Rattle.hybrid_model.specs.Boot.{boot}
use Rattle.hybrid_model.specs.Journals.{state}
use Rattle.offer_laws.proofs.NoOffer.{ends}
use Rattle.offer_laws.proofs.Walking.{walk-ends, walk-legal, walk-over}

pub returns-clause-legal : goal.returns-clause-legal
returns-clause-legal c = λ job imgs words journal enough walked. (enough, walk-legal job imgs words journal walked)

pub returns-clause-over : goal.returns-clause-over
returns-clause-over c = λ job imgs words journal prepared enough walked. walk-over job imgs words journal walked prepared enough

pub returns-clause-ending : goal.returns-clause-ending
returns-clause-ending c = λ job imgs words journal prepared enough walked. ends (state (boot job imgs) journal) (walk-ends job imgs words journal walked prepared enough)
