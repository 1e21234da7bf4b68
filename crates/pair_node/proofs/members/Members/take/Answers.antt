use Rattle.pair_node.proofs.Lists.{listed-without}
use Rattle.pair_node.proofs.members.Members.take.Goals as goal

pub returns : goal.returns
returns c = λ f there l. listed-without f c.args.cores c.args.p.0 c.args.t.0 c.args.self.now _ l there c.remove.ensures.numbers c.remove-2.ensures.numbers
