use Rattle.std.proofs.Common.{refl}
use Rattle.lwk_threads.proofs.Tables.{IsTable-changed}
use Rattle.lwk_threads.proofs.ThreadTable.set_stand.Goals as goal

pub invariant_of-self : goal.invariant_of-self
invariant_of-self g c = IsTable-changed (record { next = c.self.inside.next_tid; rows = c.self.inside.rows.map }) c.self.inside.groups.map c.self.invariant c.args.t.0 c.row_mut-row.result.now c.row_mut-row.ensures.value _ refl refl
