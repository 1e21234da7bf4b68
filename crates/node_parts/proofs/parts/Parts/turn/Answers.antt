use Rattle.node_parts.proofs.Kept.{turned-kept}
use Rattle.node_parts.proofs.parts.Parts.turn.Goals as goal
use Rattle.std.proofs.Common.{true}
use Rattle.std.specs.Prelude.{nat_lt}

pub invariant_of-self : goal.invariant_of-self
invariant_of-self g c =
    let s = c.self.inside in
    let some = c.in_err-turn.ensures.short in
    turned-kept s.cores s.frames s.instances c.turn.new.self (λ i. nat_lt i some.0) c.self.invariant some.1

pub invariant_of-self-2 : goal.invariant_of-self-2
invariant_of-self-2 g c =
    let s = c.self.inside in turned-kept s.cores s.frames s.instances c.turn.new.self (λ i. true) c.self.invariant
    c.in_ok-turn.ensures.ok
