use Rattle.rows_spaces.proofs.rows.frames_run_out.Given as goal
use Rattle.std.proofs.Common.{length, ◌≡◌}

abbrev pub invariant-loop-r : goal.invariant-loop-r
invariant-loop-r g l = l.pool.frames ≡ length l.mem
