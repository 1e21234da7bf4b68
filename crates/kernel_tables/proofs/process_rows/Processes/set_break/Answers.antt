use Rattle.kernel_tables.proofs.Sums.{IsProcesses-set}
use Rattle.std.proofs.Common.{refl}
use Rattle.kernel_tables.proofs.process_rows.Processes.set_break.Goals as goal

pub invariant_of-self : goal.invariant_of-self
invariant_of-self c = IsProcesses-set c.self.inside.instructions c.self.inside.rows.map c.self.invariant c.args.p.0 c.row_mut-row.result.now c.row_mut-row.ensures.value _ refl
