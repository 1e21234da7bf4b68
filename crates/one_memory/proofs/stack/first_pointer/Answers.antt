use Rattle.one_memory.proofs.GuestStack.{length-strings}
use Rattle.std.proofs.Common.{arith}
use Rattle.one_memory.proofs.stack.first_pointer.Goals as goal

pub overflow_sub-result : goal.overflow_sub-result
overflow_sub-result c = let all = length-strings c.args.arguments.now in omega (arith, all, c.first_string.ensures, c.requires.small, c.requires.most)
