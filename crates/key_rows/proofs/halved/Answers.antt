use Rattle.std.proofs.Common.{◌+◌, ◌-◌, ◌/◌, ◌<◌, length, arith}
use Rattle.key_rows.proofs.Placed.{place-le, place-above, place-below}
use Rattle.key_rows.proofs.halved.Goals as goal

pub loop-low-init : goal.loop-low-init
loop-low-init g c = (omega arith, place-le c.args.key c.args.rows.now, omega arith)

pub loop-low-preserved-then-rows-middle : goal.loop-low-preserved-then-rows-middle
loop-low-preserved-then-rows-middle g c =
    let middle = c.loop-low.low + (c.loop-low.high - c.loop-low.low) / 2 in
    let within : middle < length c.args.rows.now = omega arith in
    let above = place-above c.args.key middle c.args.rows.now c.index-rows-middle.result c.requires within c.if-rows-middle.true in
    (omega arith, c.loop-low.invariant.1, c.loop-low.invariant.2)

pub loop-low-preserved : goal.loop-low-preserved
loop-low-preserved g c =
    let middle = c.loop-low.low + (c.loop-low.high - c.loop-low.low) / 2 in
    let within : middle < length c.args.rows.now = omega arith in
    let below = place-below c.args.key middle c.args.rows.now c.index-rows-middle.result within c.if-rows-middle.false in
    (c.loop-low.invariant.0, below, omega arith)
