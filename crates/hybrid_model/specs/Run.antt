-- Run: a thread executes instructions on its core, up to a number or to the first that stops.
-- Source: this project's own, after the idea of IHK/McKernel.
use Rattle.hybrid_model.specs.OneProcess.{memory_here, ran_last, with_memory}
use Rattle.hybrid_model.specs.Pairs.{Here, with_node}
use Rattle.kernel_model.specs.Nodes.{Node, instructions_in_all, ready_to_run, thread_of}
use Rattle.kernel_model.specs.Traps.{Ran, executed, may_run}
use Rattle.std.specs.Prelude.{Bool, cond, nat_le, suc, zero, ℕ, ◌%◌, ◌&&◌, ◌-◌, ◌==◌}

abbrev pub left_of_limit : Node → ℕ
left_of_limit node = node.limit - instructions_in_all node

abbrev pub may_run_for : ℕ → ℕ → ℕ → Here → Bool
may_run_for core t n h = may_run h.node t && t % h.cores == core && nat_le 1 n && nat_le n 64 && nat_le n (left_of_limit h.node)

-- instructions until n are done or one stops
abbrev pub run_for : ℕ → ℕ → Ran → Ran
run_for zero t v = v
run_for (suc n) t v = let w = executed t v in cond (ready_to_run (thread_of w.node t).does) (run_for n t w) w

abbrev pub ran : ℕ → ℕ → Here → Ran
ran t n h = run_for n t (record { node = h.node; memory = memory_here h })

unfoldable pub run : ℕ → ℕ → Here → Here
run t n h = ran_last t (with_node (with_memory (ran t n h).memory h) (ran t n h).node)

-- how many instructions those are
abbrev pub length_of_run : ℕ → ℕ → Ran → ℕ
length_of_run zero t v = zero
length_of_run (suc n) t v = let w = executed t v in suc (cond (ready_to_run (thread_of w.node t).does) (length_of_run n t w) zero)

abbrev pub executed_in_run : ℕ → ℕ → Here → ℕ
executed_in_run t n h = length_of_run n t (record { node = h.node; memory = memory_here h })
