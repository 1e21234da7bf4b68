use Rattle.slab.specs.Slab.{get}
use Rattle.std.proofs.Common.{sym, ◌∙◌, arith}
use Rattle.sv_table.proofs.Giving.{Given, given_in_two, not_given, parent_there}
use Rattle.sv_table.proofs.Keys.{met}
use Rattle.sv_table.proofs.Rooms.{absent-more}
use Rattle.sv_table.proofs.nodes.give_back.Goals as goal

pub index-requires : goal.index-requires
index-requires c = met (get c.args.nodes.now) c.args.key c.args.place c.args.key c.requires.tree c.requires.high c.requires.key

pub put-requires-clause-there : goal.put-requires-clause-there
put-requires-clause-there c = parent_there (get c.args.nodes.now) (get c.remove.new.self) c.args.parent c.args.place c.args.key c.requires.low c.requires.high c.requires.key c.requires.parent c.requires.tree c.remove.ensures.updates.others

giving : (c : goal.After-put) → Given (get c.args.nodes.now) (get c.put.new.nodes) c.args.parent c.args.place
giving c =
    given_in_two (get c.args.nodes.now) (get c.remove.new.self) c.args.parent c.args.place c.args.key c.requires.low c.requires.high c.requires.key c.requires.parent c.requires.tree c.remove.ensures.updates.others
    (get c.put.new.nodes) c.index.result.now c.index.ensures (sym c.is_empty.ensures ∙ c.if-is_empty.true) c.remove.ensures.updates.changed c.put.ensures.word.changed c.put.ensures.word.others

pub returns-then-is_empty-clause-tree : goal.returns-then-is_empty-clause-tree
returns-then-is_empty-clause-tree c = (giving c).tree

pub returns-then-is_empty-clause-keys : goal.returns-then-is_empty-clause-keys
returns-then-is_empty-clause-keys c = (giving c).keys

pub returns-then-is_empty-clause-walks : goal.returns-then-is_empty-clause-walks
returns-then-is_empty-clause-walks c = (giving c).walks

pub returns-then-is_empty-clause-room : goal.returns-then-is_empty-clause-room
returns-then-is_empty-clause-room c = λ rs fits.
    omega (arith, absent-more (get c.args.nodes.now) (get c.put.new.nodes) rs c.args.place (giving c).keys, c.put.ensures.len, c.put.ensures.capacity, c.remove.ensures.len, c.remove.ensures.capacity)

pub returns-else-is_empty-clause-tree : goal.returns-else-is_empty-clause-tree
returns-else-is_empty-clause-tree c = not_given (get c.args.nodes.now) c.args.parent c.args.key c.index.result.now c.index.ensures (sym c.is_empty.ensures ∙ c.if-is_empty.false) c.requires.tree
