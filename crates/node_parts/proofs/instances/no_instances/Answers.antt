use Rattle.node_parts.proofs.instances.no_instances.Goals as goal
use Rattle.std.proofs.Common.{None, ap, arith, replicate, ◌∙◌, ◌≡◌}

pub returns : goal.returns
returns g c = c.loop.invariant ∙ (let nine : c.loop.counter ≡ 9 = omega arith in ap (λ n. replicate n None) nine)
