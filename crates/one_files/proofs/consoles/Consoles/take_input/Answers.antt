use Rattle.one_files.proofs.GuestConsoles.{console-put}
use Rattle.one_files.proofs.consoles.Consoles.take_input.Goals as goal
use Rattle.std.proofs.Common.{arith}

pub invariant_of-self : goal.invariant_of-self
invariant_of-self c = console-put c.self.inside.rows.map c.self.invariant c.args.guest c.take_input.new.self (omega arith)
