use Rattle.node_parts.proofs.Kept.{put-kept}
use Rattle.node_parts.proofs.parts.Parts.create.Goals as goal
use Rattle.std.proofs.Common.{None}

pub invariant_of-self : goal.invariant_of-self
invariant_of-self g c =
    let s = c.self.inside in put-kept s.cores s.frames s.instances c.create.new.self c.args.i None c.self.invariant
    c.create.ensures
