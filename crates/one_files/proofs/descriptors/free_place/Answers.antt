use Rattle.std.proofs.Common.{◌≡◌, ◌∙◌, arith, sym}
use Rattle.std.specs.Prelude.{None, slice_index_or}
use Rattle.one_files.proofs.Slots.{lowest-slot, none-there_is, past-slots}
use Rattle.one_files.proofs.descriptors.free_place.Goals as goal

empty-here : (c : goal.Else-is_some) → slice_index_or c.args.slots.now c.loop-place.place None ≡ None
empty-here c = none-there_is _ (sym c.is_some.ensures ∙ c.if-is_some.false)

empty-past : (c : goal.After-loop-place) → slice_index_or c.args.slots.now c.loop-place.place None ≡ None
empty-past c = past-slots c.args.slots.now c.loop-place.place (omega arith)

pub returns-else-is_some : goal.returns-else-is_some
returns-else-is_some c = record { lowest = lowest-slot c.args.slots.now c.loop-place.place c.loop-place.invariant.1 (empty-here c); empty = empty-here c }

pub returns-after-loop-place : goal.returns-after-loop-place
returns-after-loop-place c = record { lowest = lowest-slot c.args.slots.now c.loop-place.place c.loop-place.invariant.1 (empty-past c); empty = empty-past c }
