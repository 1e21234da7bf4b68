use Rattle.offer_laws.proofs.no_offer_is_the_end.Goals as goal
use Rattle.offer_laws.proofs.NoOffer.{ends, no-offer-ends}

pub returns-clause-over : goal.returns-clause-over
returns-clause-over c = λ pair cores none. no-offer-ends pair cores none

pub returns-clause-ending : goal.returns-clause-ending
returns-clause-ending c = λ pair cores none. ends pair (no-offer-ends pair cores none)
