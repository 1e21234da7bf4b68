use Rattle.file_model.specs.Files.{Console}
use Rattle.key_rows.specs.Table.{Table}
use Rattle.one_files.proofs.GuestConsoles.{no-consoles}
use Rattle.one_files.proofs.consoles.Consoles.new.Goals as goal
use Rattle.one_files.specs.Guests.{AreOfGuests}
use Rattle.std.proofs.Common.{subst, sym}

pub invariant_of-result : goal.invariant_of-result
invariant_of-result c = subst (λ (t : Table Console). AreOfGuests t.map) (sym c.new.ensures) no-consoles
