use Rattle.std.proofs.Common.{◌≡◌, ◌+◌, ◌-◌, ◌/◌, ◌<◌, ◌∙◌, length, arith}
use Rattle.key_rows.proofs.Runs.{from-zero, run-above, run-below, run-le, run-lowest, run}
use Rattle.key_rows.proofs.run_of.Goals as goal

pub loop-low-init : goal.loop-low-init
loop-low-init g c = (omega arith, run-le 0 c.args.rows.now, omega arith)

pub loop-low-preserved-then-rows-middle : goal.loop-low-preserved-then-rows-middle
loop-low-preserved-then-rows-middle g c =
    let middle = c.loop-low.low + (c.loop-low.high - c.loop-low.low) / 2 in
    let within : middle < length c.args.rows.now = omega arith in
    let above = run-above 0 middle c.args.rows.now c.index-rows-middle.result c.requires (from-zero c.args.rows.now) within (omega arith) in
    (omega arith, c.loop-low.invariant.1, c.loop-low.invariant.2)

pub loop-low-preserved : goal.loop-low-preserved
loop-low-preserved g c =
    let middle = c.loop-low.low + (c.loop-low.high - c.loop-low.low) / 2 in
    let within : middle < length c.args.rows.now = omega arith in
    let below = run-below 0 middle c.args.rows.now c.index-rows-middle.result within (λ e. c.if-rows-middle.false (omega (arith, e))) in
    (c.loop-low.invariant.0, below, omega arith)

pub returns-clause-lowest : goal.returns-clause-lowest
returns-clause-lowest g c = (let e : c.loop-low.low ≡ run 0 c.args.rows.now = omega arith in e) ∙ run-lowest c.args.rows.now c.requires
