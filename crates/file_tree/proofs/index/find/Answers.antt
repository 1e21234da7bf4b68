use Rattle.std.proofs.Common.{arith, sym}
use Rattle.file_tree.proofs.Indexed.{here-found, here-missing, past-found}
use Rattle.file_tree.proofs.index.find.Goals as goal

pub returns-then-i-rows : goal.returns-then-i-rows
returns-then-i-rows c = sym (past-found c.args.nodes.now.map c.args.nodes.now.keys c.args.rows.now c.requires c.args.tag.directory c.args.tag.name.now c.place_of-i.result c.place_of-i.ensures.at (omega arith))

pub returns-then-has_tag : goal.returns-then-has_tag
returns-then-has_tag c =
    sym (here-found c.args.nodes.now.map c.args.nodes.now.keys c.args.rows.now c.requires c.args.tag.directory c.args.tag.name.now c.place_of-i.result c.place_of-i.ensures.at (record { node = 0; key = 0 }) c.has_tag.result (omega arith)
    c.has_tag.ensures c.if-has_tag.true)

pub returns-else-has_tag : goal.returns-else-has_tag
returns-else-has_tag c =
    sym (here-missing c.args.nodes.now.map c.args.nodes.now.keys c.args.rows.now c.requires c.args.tag.directory c.args.tag.name.now c.place_of-i.result c.place_of-i.ensures.at (record { node = 0; key = 0 }) c.has_tag.result (omega arith)
    c.has_tag.ensures c.if-has_tag.false)
