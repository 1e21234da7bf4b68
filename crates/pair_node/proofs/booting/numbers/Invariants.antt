use Rattle.hybrid_model.specs.Tallies.{Each}
use Rattle.kernel_tables.specs.declared.process_rows.Process.{Process}
use Rattle.mck_word.specs.Maps.{at, keys}
use Rattle.mck_word.specs.declared.Pid.{Pid}
use Rattle.pair_node.proofs.booting.numbers.Given as goal
use Rattle.std.proofs.Common.{Some, length, map, ℕ, ◌++◌, ◌≡◌}

-- the processes that are left
abbrev pub invariant-loop-row : goal.invariant-loop-row
invariant-loop-row l = record {
  left : map (λ (p : Pid). p.0) l.pids.items ++ map (λ (e : ℕ × Process). e.0) l.rest ≡ keys l.node.processes.map;
  found : Each (λ (e : ℕ × Process). at l.node.processes.map e.0 ≡ Some e.1) l.rest;
}

abbrev pub decreases-loop-row : goal.decreases-loop-row
decreases-loop-row l = length l.rest
