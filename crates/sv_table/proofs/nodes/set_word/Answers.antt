use Rattle.slab.specs.Slab.{get}
use Rattle.std.proofs.Common.{arith}
use Rattle.sv_table.proofs.Keys.{met}
use Rattle.sv_table.proofs.Rooms.{absent-same}
use Rattle.sv_table.proofs.Setting.{LeafChange, set}
use Rattle.sv_table.proofs.nodes.set_word.Goals as goal
use Rattle.sv_table.specs.Walks.{place_of_leaf}

pub put-requires-clause-there : goal.put-requires-clause-there
put-requires-clause-there c = met (get c.args.nodes.now) c.args.leaf (place_of_leaf c.args.page) c.args.leaf c.requires.tree (let l = c.requires.low in omega arith) c.requires.leaf

change : (c : goal.After-put) → LeafChange (get c.args.nodes.now) (get c.put.new.nodes) c.args.leaf c.args.page c.args.word
change c = set (get c.args.nodes.now) (get c.put.new.nodes) c.args.leaf c.args.page c.args.word c.requires.low c.requires.leaf c.requires.entry c.put.ensures.word.changed c.put.ensures.word.others c.requires.tree

pub returns-clause-tree : goal.returns-clause-tree
returns-clause-tree c = (change c).tree

pub returns-clause-full : goal.returns-clause-full
returns-clause-full c = (change c).full

pub returns-clause-keys : goal.returns-clause-keys
returns-clause-keys c = (change c).keys

pub returns-clause-here : goal.returns-clause-here
returns-clause-here c = (change c).here

pub returns-clause-others : goal.returns-clause-others
returns-clause-others c = (change c).others

pub returns-clause-room : goal.returns-clause-room
returns-clause-room c = λ rs fits. omega (arith, absent-same (get c.args.nodes.now) (get c.put.new.nodes) rs (change c).keys, c.put.ensures.len, c.put.ensures.capacity)
