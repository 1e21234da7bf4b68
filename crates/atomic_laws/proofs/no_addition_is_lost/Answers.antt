use Rattle.atomic_laws.proofs.no_addition_is_lost.Goals as goal
use Rattle.atomic_laws.proofs.AddingEvents.{stretch-adds}

pub returns : goal.returns
returns c = λ job imgs before during p a is prepared legal only. stretch-adds job imgs before during p a is prepared legal only
