-- How long a process computes before a line of the script comes due or the limit is reached.
-- Source: this project's own.
use Rattle.hybrid_model.specs.Run.{left_of_limit}
use Rattle.kernel_model.specs.Nodes.{Node, ScriptLine, process_of}
use Rattle.std.specs.Prelude.{cond, fold, min, nat_lt, ℕ, ◌&&◌, ◌-◌, ◌==◌}

-- of `most` instructions more of process p, which has executed `done`: as many as don't make the line due that isn't yet
abbrev pub undue_for : ℕ → ℕ → ℕ → ScriptLine → ℕ
undue_for p done most l = cond (l.process == p && nat_lt done l.after) (min most (l.after - done - 1)) most

-- how many instructions process p may still execute until a line of the script comes due or the limit is reached
abbrev pub quiet_for : Node → ℕ → ℕ
quiet_for node p = fold (undue_for p (process_of node p).instructions) (left_of_limit node) node.unsent
