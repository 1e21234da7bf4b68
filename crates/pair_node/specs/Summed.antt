-- What is summed up of the processes.
use Rattle.kernel_model.specs.Nodes.{Node, process_of}
use Rattle.mck_word.specs.declared.Pid.{Pid}
use Rattle.pair_core.specs.declared.parts.Side.{Side}
use Rattle.run_summary.specs.Summaries.{end_of}
use Rattle.run_summary.specs.declared.ProcessEnd.{ProcessEnd}
use Rattle.std.specs.Prelude.{ℕ, ◌-◌}

-- how many requests were numbered in a process
abbrev pub numbered_in : {T : Type 0} → ℕ × Side T → ℕ
numbered_in e = e.1.channel.book.requests.next - 1

-- a process with its end
abbrev pub end_at : Node → Pid → ProcessEnd
end_at node p = record { pid = p; end = end_of (process_of node p.0).life }
