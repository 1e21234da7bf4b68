use Rattle.pair_node.proofs.Lists.{listed-with}
use Rattle.pair_node.proofs.members.Members.add.Goals as goal

pub returns : goal.returns
returns c = λ f absent l. listed-with f c.args.cores c.args.p.0 c.args.t.0 c.args.self.now _ l absent c.insert.ensures.numbers c.insert-2.ensures.numbers
