use Rattle.hybrid_model.specs.Tallies.{Each}
use Rattle.kernel_tables.specs.declared.process_rows.Process.{Process}
use Rattle.mck_word.specs.Maps.{at, entries}
use Rattle.one_kernel.proofs.summary.ends.Given as goal
use Rattle.one_kernel.specs.Summed.{end_at}
use Rattle.std.proofs.Common.{Some, length, map, ℕ, ◌++◌, ◌≡◌}

-- the processes that are left
abbrev pub invariant-loop-row : goal.invariant-loop-row
invariant-loop-row l = record {
  left : l.ends ++ map end_at l.rest ≡ map end_at (entries l.processes.map);
  found : Each (λ (e : ℕ × Process). at l.processes.map e.0 ≡ Some e.1) l.rest;
}

abbrev pub decreases-loop-row : goal.decreases-loop-row
decreases-loop-row l = length l.rest
