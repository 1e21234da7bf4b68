use Rattle.std.proofs.Common.{◌+◌, ◌-◌, ◌/◌, ◌<◌, arith, length}
use Rattle.file_tree.proofs.Indexed.{before, behind, place-within}
use Rattle.file_tree.proofs.index.place_of.Goals as goal

pub loop-low-init : goal.loop-low-init
loop-low-init c = (omega arith, place-within c.args.nodes.now.map c.args.nodes.now.keys c.args.rows.now (c.args.tag.directory, c.args.tag.name.now) (record { node = 0; key = 0 }), omega arith)

pub loop-low-preserved-then-is_behind : goal.loop-low-preserved-then-is_behind
loop-low-preserved-then-is_behind c =
    let middle = c.loop-low.low + (c.loop-low.high - c.loop-low.low) / 2 in
    let within : middle < length c.args.rows.now = omega arith in
    let above = behind c.args.nodes.now.map c.args.nodes.now.keys c.args.rows.now (c.args.tag.directory, c.args.tag.name.now) (record { node = 0; key = 0 }) middle c.is_behind.result c.requires.each c.requires.rises within c.is_behind.ensures c.if-is_behind.true in
    (omega arith, c.loop-low.invariant.1, c.loop-low.invariant.2)

pub loop-low-preserved : goal.loop-low-preserved
loop-low-preserved c =
    let middle = c.loop-low.low + (c.loop-low.high - c.loop-low.low) / 2 in
    let within : middle < length c.args.rows.now = omega arith in
    let below = before c.args.nodes.now.map c.args.nodes.now.keys c.args.rows.now (c.args.tag.directory, c.args.tag.name.now) (record { node = 0; key = 0 }) middle c.is_behind.result c.requires.each within c.is_behind.ensures c.if-is_behind.false in
    (c.loop-low.invariant.0, below, omega arith)
