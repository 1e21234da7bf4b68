use Rattle.std.specs.Prelude.{true, ◌&&◌}
use Rattle.std.proofs.Common.{ap}
use Rattle.one_kernel.proofs.parts.One.instr.Goals as goal

pub execute-requires-clause-may : goal.execute-requires-clause-may
execute-requires-clause-may c = ap (λ b. b && true) c.requires.may
