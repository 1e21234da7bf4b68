use Rattle.lwk_boot.proofs.GuestPages.{length-strings}
use Rattle.std.proofs.Common.{arith}
use Rattle.lwk_boot.proofs.stack.first_string.Goals as goal

pub overflow_sub-result : goal.overflow_sub-result
overflow_sub-result c = let all = length-strings c.args.arguments.now in omega (arith, all, c.strings_len.ensures, c.requires.small)
