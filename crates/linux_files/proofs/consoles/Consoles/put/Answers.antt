use Rattle.std.proofs.Common.{subst, sym}
use Rattle.linux_files.proofs.RowKeeps.{guest-put}
use Rattle.linux_files.specs.Consoles.{AreOfGuests}
use Rattle.linux_files.specs.Tables.{ConsoleRow}
use Rattle.mck_word.specs.Maps.{Map}
use Rattle.linux_files.proofs.consoles.Consoles.put.Goals as goal

pub invariant_of-self : goal.invariant_of-self
invariant_of-self c = subst (λ (m : Map ConsoleRow). AreOfGuests m) (sym c.put.ensures.row) (guest-put c.self.inside.rows.map c.args.guest c.args.console c.ranges.guest.fits c.self.invariant)
