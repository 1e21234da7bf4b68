use Rattle.std.proofs.Common.{arith, length}
use Rattle.std.proofs.lemmas.Grind.{common_steps}
use Rattle.linux_files.proofs.Slots.{lowest-slot, past-slots}
use Rattle.linux_files.proofs.descriptors.free_place.Goals as goal

pub returns-then-is_none-clause-lowest : goal.returns-then-is_none-clause-lowest
returns-then-is_none-clause-lowest c = lowest-slot c.args.slots.now c.loop-place.place c.loop-place.invariant (grind (arith, common_steps))

pub returns-clause-lowest : goal.returns-clause-lowest
returns-clause-lowest c =
    lowest-slot c.args.slots.now (length c.args.slots.now) (λ i l. c.loop-place.invariant i (omega arith)) (past-slots c.args.slots.now (length c.args.slots.now) (omega arith))
