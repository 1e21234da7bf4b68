use Rattle.std.proofs.Common.{arith}
use Rattle.lwk_threads.proofs.Tables.{stands-le}
use Rattle.mck_word.specs.Maps.{values}
use Rattle.lwk_threads.proofs.ThreadTable.first.Goals as goal

pub enter-requires-clause-free : goal.enter-requires-clause-free
enter-requires-clause-free g c = let less = stands-le c.args.pid.0 0 (values c.args.self.now.threads.rows) in let none = c.requires.alone in omega arith
