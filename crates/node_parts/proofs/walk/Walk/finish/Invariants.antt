use Rattle.node_parts.proofs.walk.Walk.finish.Given as goal
use Rattle.node_parts.specs.Courses.{GoesOn, place}
use Rattle.work_laws.specs.Left.{left}

abbrev pub invariant-steps : goal.invariant-steps
invariant-steps g l = GoesOn l.fn.self l.self

abbrev pub decreases-steps : goal.decreases-steps
decreases-steps g l = left (place l.self).pair
