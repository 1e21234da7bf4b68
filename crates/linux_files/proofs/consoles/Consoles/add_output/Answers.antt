use Rattle.linux_files.proofs.RowKeeps.{guest-put}
use Rattle.linux_files.proofs.consoles.Consoles.add_output.Goals as goal

pub invariant_of-self : goal.invariant_of-self
invariant_of-self c = guest-put c.self.inside.rows.map c.args.guest c.add_output.new.self c.ranges.guest.fits c.self.invariant
