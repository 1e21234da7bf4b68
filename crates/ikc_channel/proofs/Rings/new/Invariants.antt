use Rattle.ikc_channel.proofs.Rings.new.Given as goal
use Rattle.ikc_channel.specs.Lines.{EachTakes, messages_of}
use Rattle.std.specs.Prelude.{◌≡◌, ◌-◌, ◌≤◌, replicate, []}

abbrev pub invariant-loop-made : goal.invariant-loop-made
invariant-loop-made l = (messages_of l.rings.items ≡ replicate l.made []) × EachTakes l.capacity l.rings.items × (l.made ≤ l.count)

abbrev pub decreases-loop-made : goal.decreases-loop-made
decreases-loop-made l = l.count - l.made
