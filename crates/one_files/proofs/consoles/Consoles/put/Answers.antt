use Rattle.one_files.proofs.GuestConsoles.{console-put}
use Rattle.one_files.proofs.consoles.Consoles.put.Goals as goal
use Rattle.one_files.specs.Guests.{AreOfGuests}
use Rattle.std.proofs.Common.{arith, subst, sym}

pub invariant_of-self : goal.invariant_of-self
invariant_of-self c = subst AreOfGuests (sym c.put.ensures.row) (console-put c.self.inside.rows.map c.self.invariant c.args.guest c.args.console (omega arith))
