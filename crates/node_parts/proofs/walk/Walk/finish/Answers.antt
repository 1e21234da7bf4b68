use Rattle.node_parts.proofs.OnCourse.{at_end}
use Rattle.node_parts.proofs.walk.Walk.finish.Goals as goal
use Rattle.node_parts.specs.Courses.{Course, place}
use Rattle.std.proofs.Common.{ap, sym, ◌∙◌}

pub returns-then-not-branch-clause-end : goal.returns-then-not-branch-clause-end
returns-then-not-branch-clause-end g c =
    at_end c.steps.self c.step.new.self (g.M.Offers.pair c.self.inside.machine)
    (sym c.if-not-branch.true ∙ c.in_ok-step.ensures.next.0) c.in_ok-step.ensures.next.1
    (c.self.invariant.pair ∙ ap (λ (x : Course). (place x).pair) c.self.view_is) c.ending-ending.ensures.over
