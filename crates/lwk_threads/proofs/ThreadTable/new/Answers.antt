use Rattle.lwk_threads.proofs.Tables.{IsTable-none}
use Rattle.lwk_threads.proofs.ThreadTable.new.Goals as goal

pub invariant_of-result : goal.invariant_of-result
invariant_of-result g c = rw (c.new.ensures, c.new-2.ensures) IsTable-none
