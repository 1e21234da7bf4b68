use Rattle.kernel_model.specs.Layout.{strings}
use Rattle.one_memory.proofs.GuestStack.{drop-past, length-strings, strings-less}
use Rattle.std.proofs.Common.{ap, arith, length}
use Rattle.std.specs.Prelude.{List, ℕ}
use Rattle.one_memory.proofs.stack.first_string.Goals as goal

pub overflow_add-len-in-loop-argument : goal.overflow_add-len-in-loop-argument
overflow_add-len-in-loop-argument c =
    let more = strings-less c.args.arguments.now c.loop-argument.argument-index c.argument-item.result (omega arith) c.argument-item.is in
    let all = length-strings c.args.arguments.now in
    omega (arith, more, all, c.len.ensures, c.loop-argument.invariant, c.requires.small)

pub loop-argument-preserved : goal.loop-argument-preserved
loop-argument-preserved c =
    let more = strings-less c.args.arguments.now c.loop-argument.argument-index c.argument-item.result (omega arith) c.argument-item.is in
    omega (arith, more, c.len.ensures, c.loop-argument.invariant)

pub overflow_sub-result : goal.overflow_sub-result
overflow_sub-result c =
    let none = ap (λ (ss : List (List ℕ)). length (strings ss)) (drop-past c.args.arguments.now c.loop-argument.argument-index (omega arith)) in
    let all = length-strings c.args.arguments.now in
    omega (arith, none, all, c.loop-argument.invariant, c.requires.small)

pub returns : goal.returns
returns c =
    let none = ap (λ (ss : List (List ℕ)). length (strings ss)) (drop-past c.args.arguments.now c.loop-argument.argument-index (omega arith)) in
    omega (arith, none, c.loop-argument.invariant)
