use Rattle.std.proofs.Common.{ap, ◌∙◌}
use Rattle.linux_files.proofs.Closing.{lowered-slot, not-lowered}
use Rattle.linux_files.proofs.names.lower_all.Goals as goal
use Rattle.linux_files.proofs.names.lower_all.Goals.{in-None, in-Some}

pub loop-slot-preserved : goal.loop-slot-preserved
loop-slot-preserved c =
    let was = c.args.named.now.counts in
    let now = c.loop-slot.named.counts in
    let next = c.match-slot.named.counts in
    elim c.match-slot.branch [
      | in-Some w ↦ lowered-slot was now next c.loop-slot.slot-index c.args.slots.now c.loop-slot-test.true w.in-Some.d w.in-Some.is (ap (λ t. t.counts) w.named-is ∙ w.lower.ensures.counts) c.loop-slot.invariant
      | in-None w ↦ not-lowered was now next c.loop-slot.slot-index c.args.slots.now c.loop-slot-test.true w.in-None.is (ap (λ t. t.counts) w.named-is) c.loop-slot.invariant
    ]
