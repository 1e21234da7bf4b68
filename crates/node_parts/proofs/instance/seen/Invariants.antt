use Rattle.node_parts.proofs.instance.seen.Given as goal
use Rattle.std.proofs.Common.{map, take, ◌≡◌}

abbrev pub invariant-loop-image : goal.invariant-loop-image
invariant-loop-image l = map (λ s. s.value) l.seen ≡ take l.image-index l.images
