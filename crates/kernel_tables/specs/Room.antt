-- What the tables have room for.
use Rattle.kernel_tables.specs.declared.tables.KernelTables.{KernelTables}
use Rattle.std.specs.Prelude.{◌≤◌}

-- the room isn't lessened
pub record KeepsRoom (a b : KernelTables) : Type 0 where
  pub processes : a.processes.spare ≤ b.processes.spare
  pub threads : a.threads.spare ≤ b.threads.spare
  pub sleepers : a.sleepers.spare ≤ b.sleepers.spare
