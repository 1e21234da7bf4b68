use Rattle.std.proofs.Common.{arith}
use Rattle.lwk_space.proofs.bytes.check.Goals as goal

pub returns-in-None : goal.returns-in-None
returns-in-None g c = λ p s a b. c.in-None.ensures p a (omega (arith, c.pages_touched.ensures.some s))
