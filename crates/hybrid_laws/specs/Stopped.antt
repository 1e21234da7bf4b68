-- Threads that are stopped, as a number.
use Rattle.hybrid_model.specs.Tallies.{as_number}
use Rattle.kernel_model.specs.Nodes.{Thread, is_stopped}
use Rattle.std.specs.Prelude.{ℕ}

abbrev pub stops : Thread → ℕ
stops x = as_number (is_stopped x.does)
