use Rattle.node_parts.proofs.Kept.{lent-kept}
use Rattle.node_parts.proofs.parts.Parts.mem.Goals as goal

pub invariant_of-self : goal.invariant_of-self
invariant_of-self g c =
    let s = c.self.inside in lent-kept s.cores s.frames c.give_lowest.new.self s.instances c.args.i c.args.n
    c.self.invariant c.in_ok-check_idle.ensures c.give_lowest.ensures.owners
