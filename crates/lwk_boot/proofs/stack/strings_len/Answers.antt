use Rattle.lwk_boot.proofs.GuestPages.{length-strings}
use Rattle.lwk_boot.proofs.TopLoops.{strings-here, strings-none}
use Rattle.std.proofs.Common.{ap, arith, length}
use Rattle.lwk_boot.proofs.stack.strings_len.Goals as goal

pub overflow_add-len-in-loop-argument : goal.overflow_add-len-in-loop-argument
overflow_add-len-in-loop-argument c =
    let more = strings-here c.args.arguments.now c.loop-argument.argument-index c.argument-item.result (omega arith) c.argument-item.is in
    let all = length-strings c.args.arguments.now in
    omega (arith, more, all, c.len.ensures, c.loop-argument.invariant, c.requires.small)

pub loop-argument-preserved : goal.loop-argument-preserved
loop-argument-preserved c =
    let more = strings-here c.args.arguments.now c.loop-argument.argument-index c.argument-item.result (omega arith) c.argument-item.is in
    omega (arith, more, c.len.ensures, c.loop-argument.invariant)

pub returns : goal.returns
returns c =
    let none = ap length (strings-none c.args.arguments.now c.loop-argument.argument-index (omega arith)) in
    omega (arith, none, c.loop-argument.invariant)
