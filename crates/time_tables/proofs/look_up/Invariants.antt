use Rattle.std.specs.Prelude.{◌≤◌}
use Rattle.time_tables.proofs.look_up.Given as goal

abbrev pub invariant-loop : goal.invariant-loop
invariant-loop g l = l.k ≤ l.count
