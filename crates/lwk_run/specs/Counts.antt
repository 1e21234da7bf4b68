-- How many instructions a run executes, and the node after them.
use Rattle.isa_model.specs.Instr.{Outcome}
use Rattle.isa_model.specs.Memory.{Memory}
use Rattle.isa_model.specs.declared.stops.Stop.{Stop}
use Rattle.isa_model.specs.declared.stops.Stop.TheVariants.{On}
use Rattle.kernel_model.specs.Nodes.{Node, Process, Thread, change_process, change_thread, thread_of}
use Rattle.kernel_model.specs.Traps.{does_after}
use Rattle.mck_word.specs.declared.Regs.{Regs}
use Rattle.rv64i_user.specs.Runs.{count_on, instrs}
use Rattle.std.specs.Prelude.{false, ℕ, ◌+◌}

-- the instruction that stopped is one
abbrev pub stopped_one : Stop → ℕ
stopped_one On = 0
stopped_one _ = 1

-- how many of at most n instructions are executed, up to and with the first that stops
abbrev pub executed_count : ℕ → Regs → Memory → ℕ
executed_count n r m = count_on n r m + stopped_one (instrs n r m).stop

-- the thread after instructions
abbrev pub run_thread : Outcome → Thread → Thread
run_thread o x = record x { regs = o.regs; does = does_after o.stop; back = false }

-- the process after k of them
abbrev pub run_process : ℕ → Process → Process
run_process k p = record p { instructions = p.instructions + k }

-- the node after k instructions of a thread
abbrev pub node_after : ℕ → Outcome → ℕ → Node → Node
node_after t o k node = change_process (thread_of node t).process (run_process k) (change_thread t (run_thread o) node)
