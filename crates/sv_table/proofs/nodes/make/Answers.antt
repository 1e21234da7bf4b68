use Rattle.slab.specs.Slab.{get}
use Rattle.std.proofs.Common.{sym, ◌∙◌, arith}
use Rattle.sv_table.proofs.Making.{Made, key_at-below, made_in_two, parent_there}
use Rattle.sv_table.proofs.Opening.{leads}
use Rattle.sv_table.proofs.Rooms.{absent-less, absent-some}
use Rattle.sv_table.proofs.nodes.make.Goals as goal
use Rattle.sv_table.specs.Walks.{above, entry_above}

pub returns-in-Some-clause-tree : goal.returns-in-Some-clause-tree
returns-in-Some-clause-tree c =
    leads (get c.args.nodes.now) c.args.parent c.in-Some.key (above c.args.place) (entry_above c.args.place) (let l = c.requires.high in omega arith) (omega arith) c.requires.parent (sym c.child_of.ensures ∙ c.in-Some.is) c.requires.tree

pub returns-in-Some-clause-key : goal.returns-in-Some-clause-key
returns-in-Some-clause-key c =
    key_at-below (get c.args.nodes.now) c.args.parent c.args.place c.requires.low c.requires.high c.requires.parent ∙ sym c.child_of.ensures ∙ c.in-Some.is

pub insert_reserved-key-requires : goal.insert_reserved-key-requires
insert_reserved-key-requires c =
    let node = get c.args.nodes.now in
    let none = key_at-below node c.args.parent c.args.place c.requires.low c.requires.high c.requires.parent ∙ sym c.child_of.ensures ∙ c.in_default.is in
    let room = c.requires.room in
    let fits = room.1 in
    omega (arith, absent-some node room.0 c.args.place c.requires.high room.2 none)

pub put-requires-clause-there : goal.put-requires-clause-there
put-requires-clause-there c =
    let i = c.insert_reserved-key.ensures in
    parent_there (get c.args.nodes.now) (get c.insert_reserved-key.new.self) c.args.parent c.args.place c.insert_reserved-key.result c.requires.high i.was_vacant c.requires.parent c.requires.tree i.updates.others

making : (c : goal.After-put) → Made (get c.args.nodes.now) (get c.put.new.nodes) c.args.place c.insert_reserved-key.result
making c =
    let i = c.insert_reserved-key.ensures in
    let p = c.put.ensures.word in
    made_in_two (get c.args.nodes.now) (get c.insert_reserved-key.new.self) (get c.put.new.nodes) c.args.parent c.args.place c.insert_reserved-key.result c.node_entry.result c.new.result
    c.requires.low c.requires.high (let a = i.key_in_range in let b = i.capacity in let f = c.requires.few in omega arith) i.was_vacant c.requires.parent c.requires.tree c.new.ensures i.updates.changed i.updates.others
    (sym c.child_of.ensures ∙ c.in_default.is) c.node_entry.ensures p.changed p.others

pub returns-clause-tree : goal.returns-clause-tree
returns-clause-tree c = (making c).tree

pub returns-clause-key : goal.returns-clause-key
returns-clause-key c = (making c).found

pub returns-clause-walks : goal.returns-clause-walks
returns-clause-walks c = (making c).walks

pub returns-clause-room : goal.returns-clause-room
returns-clause-room c = λ rs there fits.
    let m = making c in
    let less = absent-less (get c.args.nodes.now) (get c.put.new.nodes) rs c.args.place c.insert_reserved-key.result c.requires.high there m.none m.found m.keys in
    omega (arith, c.put.ensures.len, c.put.ensures.capacity, c.insert_reserved-key.ensures.len, c.insert_reserved-key.ensures.capacity)
