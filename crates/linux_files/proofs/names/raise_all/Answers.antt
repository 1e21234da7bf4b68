use Rattle.std.proofs.Common.{ap, arith, ◌∙◌}
use Rattle.linux_files.proofs.Closing.{not-raised, raised-slot, still-named}
use Rattle.linux_files.proofs.names.raise_all.Goals as goal
use Rattle.linux_files.proofs.names.raise_all.Goals.{in-None, in-Some}

pub raise-requires-clause-room : goal.raise-requires-clause-room
raise-requires-clause-room c none =
    let some = still-named c.args.named.now.counts c.loop-slot.named.counts c.loop-slot.slot-index c.in-Some.d c.args.slots.now c.loop-slot-test.true c.in-Some.is c.requires.there c.loop-slot.invariant.counts in
    omega arith

pub loop-slot-preserved : goal.loop-slot-preserved
loop-slot-preserved c =
    let was = c.args.named.now.counts in
    let now = c.loop-slot.named.counts in
    let next = c.match-slot.named.counts in
    elim c.match-slot.branch [
      | in-Some w ↦ record {
        counts = raised-slot was now next c.loop-slot.slot-index c.args.slots.now c.loop-slot-test.true w.in-Some.d w.in-Some.is (ap (λ t. t.counts) w.named-is ∙ w.raise.ensures.counts) c.loop-slot.invariant.counts;
        left = let same = ap (λ t. t.left) w.named-is in let one = w.raise.ensures.left in let so_far = c.loop-slot.invariant.left in omega arith;
      }
      | in-None w ↦ record {
        counts = not-raised was now next c.loop-slot.slot-index c.args.slots.now c.loop-slot-test.true w.in-None.is (ap (λ t. t.counts) w.named-is) c.loop-slot.invariant.counts;
        left = let same = ap (λ t. t.left) w.named-is in let so_far = c.loop-slot.invariant.left in omega arith;
      }
    ]
