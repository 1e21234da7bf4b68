use Rattle.key_rows.specs.Table.{Table}
use Rattle.kernel_tables.proofs.Sums.{IsProcesses-none}
use Rattle.kernel_tables.specs.Totals.{IsProcesses}
use Rattle.kernel_tables.specs.declared.process_rows.Process.{Process}
use Rattle.std.proofs.Common.{subst, sym}
use Rattle.kernel_tables.proofs.process_rows.Processes.new.Goals as goal

pub invariant_of-result : goal.invariant_of-result
invariant_of-result c = subst (λ (t : Table Process). IsProcesses 0 t.map) (sym c.new.ensures) IsProcesses-none
