use Rattle.offer_laws.proofs.offers_may.Goals as goal
use Rattle.offer_laws.proofs.OffersMay.{offer-may}

pub returns : goal.returns
returns c = λ pair a e offered. offer-may pair a e offered
