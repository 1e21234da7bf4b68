use Rattle.offer_laws.proofs.an_offer_is_no_end.Goals as goal
use Rattle.offer_laws.proofs.AnOffer.{an-offer, at-end-is, goes-on}

pub returns-clause-under_way : goal.returns-clause-under_way
returns-clause-under_way c = λ pair a e among offers. an-offer pair a e among offers

pub returns-clause-unfinished : goal.returns-clause-unfinished
returns-clause-unfinished c = λ pair a e among offers. goes-on pair (an-offer pair a e among offers)

pub returns-clause-exactly : goal.returns-clause-exactly
returns-clause-exactly c = λ pair cores. at-end-is pair cores
