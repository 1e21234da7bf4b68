use Rattle.linux_files.proofs.Slots.{cut-none}
use Rattle.std.proofs.Common.{arith}
use Rattle.std.proofs.lemmas.Grind.{common_steps}
use Rattle.linux_files.proofs.descriptors.Descriptors.cut.Goals as goal

pub returns-else-is_some : goal.returns-else-is_some
returns-else-is_some c = cut-none c.self.inside.slots c.args.self.now c.args.fd c.self.view_is (grind (arith, common_steps))
