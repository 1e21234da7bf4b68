use Rattle.node_parts.proofs.Turning.{begins-turn, ends-turn, goes-on-turn}
use Rattle.node_parts.proofs.instances.turn_all.Goals as goal
use Rattle.std.proofs.Common.{arith}

pub loop-slot-init : goal.loop-slot-init
loop-slot-init g c = begins-turn c.args.slots.now

pub loop-slot-preserved : goal.loop-slot-preserved
loop-slot-preserved g c =
    goes-on-turn c.loop-slot.slot-index c.args.slots.now c.loop-slot.slots c.turn_one.new.slot c.slot-item.result
    (omega arith) c.loop-slot.invariant c.in_ok-turn_one.ensures.ok

pub returns-clause-ok : goal.returns-clause-ok
returns-clause-ok g c =
    ends-turn c.loop-slot.slot-index c.args.slots.now c.loop-slot.slots c.loop-slot.invariant (omega arith)
