use Rattle.key_rows.specs.Table.{Table}
use Rattle.kernel_tables.specs.Totals.{instructions_in}
use Rattle.kernel_tables.specs.declared.process_rows.Process.{Process}
use Rattle.kernel_tables.proofs.Sums.{IsProcesses-grown, within}
use Rattle.std.proofs.Common.{ap, arith, refl}
use Rattle.kernel_tables.proofs.process_rows.Processes.add_instructions.Goals as goal

pub overflow_add-row : goal.overflow_add-row
overflow_add-row c = omega (arith, within c.self.inside.rows.map c.args.p.0 c.row_mut-row.result.now c.row_mut-row.ensures.value, ap (λ (t : Table Process). instructions_in t.map) c.self.view_is)

pub invariant_of-self : goal.invariant_of-self
invariant_of-self c = IsProcesses-grown c.self.inside.instructions c.self.inside.rows.map c.self.invariant c.args.p.0 c.row_mut-row.result.now c.row_mut-row.ensures.value _ c.args.n refl
