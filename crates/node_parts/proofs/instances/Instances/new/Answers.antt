use Rattle.mck_word.specs.Slots.{by_place}
use Rattle.node_parts.proofs.ByPlace.{empty-slots}
use Rattle.node_parts.proofs.instances.Instances.new.Goals as goal
use Rattle.std.proofs.Common.{ap, ◌∙◌}

pub returns : goal.returns
returns g c = ap (λ os. by_place os) c.in_ok-slots.ensures ∙ empty-slots 9
