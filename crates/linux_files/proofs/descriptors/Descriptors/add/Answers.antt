use Rattle.std.proofs.Common.{rules}
use Rattle.linux_files.proofs.Slots.{lowest-below, slots-more, slots-new}
use Rattle.linux_files.proofs.descriptors.Descriptors.add.Goals as goal

pub offset_bounds-self-inside-place : goal.offset_bounds-self-inside-place
offset_bounds-self-inside-place c = let less = lowest-below c.self.inside.slots c.args.self.now c.free_place-place.result 64 c.self.view_is c.free_place-place.ensures.lowest c.requires in search rules

pub bounds-self-inside-place : goal.bounds-self-inside-place
bounds-self-inside-place c = lowest-below c.self.inside.slots c.args.self.now c.free_place-place.result 64 c.self.view_is c.free_place-place.ensures.lowest c.requires

pub overflow_cast-result : goal.overflow_cast-result
overflow_cast-result c = let less = lowest-below c.self.inside.slots c.args.self.now c.free_place-place.result 64 c.self.view_is c.free_place-place.ensures.lowest c.requires in search rules

pub returns-clause-map : goal.returns-clause-map
returns-clause-map c =
    let less = lowest-below c.self.inside.slots c.args.self.now c.free_place-place.result 64 c.self.view_is c.free_place-place.ensures.lowest c.requires in
    slots-new c.self.inside.slots c.args.self.now c.free_place-place.result c.args.d c.self.view_is c.free_place-place.ensures.lowest (search rules)

pub returns-clause-used : goal.returns-clause-used
returns-clause-used c =
    let less = lowest-below c.self.inside.slots c.args.self.now c.free_place-place.result 64 c.self.view_is c.free_place-place.ensures.lowest c.requires in
    slots-more c.self.inside.slots c.args.self.now c.free_place-place.result c.args.d c.self.view_is c.free_place-place.ensures.empty (search rules)
