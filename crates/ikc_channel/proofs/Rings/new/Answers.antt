use Rattle.ikc_channel.proofs.Rings.new.Goals as goal
use Rattle.ikc_ring.specs.declared.Msg.{Msg}
use Rattle.std.proofs.Common.{ap, arith, ◌∙◌, ◌≡◌}
use Rattle.std.specs.Prelude.{List, [], replicate}

pub returns : goal.returns
returns c =
    let all : c.loop-made.made ≡ c.args.count = omega (arith, c.loop-made.invariant.2, c.loop-made-test.false) in
    λ j. record { messages = (c.loop-made.invariant.0 ∙ ap (λ n. replicate {A = List Msg} n []) all) j; capacity = c.args.capacity }
