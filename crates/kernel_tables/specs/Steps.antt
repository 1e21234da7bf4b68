-- Steps of a node that the definitions have no word for.
use Rattle.kernel_model.specs.LocalCalls.{is_waiter, waiters}
use Rattle.kernel_model.specs.Nodes.{Node, Process, ScriptLine, Sleeper, Thread, answered, change_process, change_thread, thread_of}
use Rattle.kernel_model.specs.Traps.{line_is}
use Rattle.kernel_model.specs.SignalSets.{without_signal}
use Rattle.kernel_model.specs.declared.Does.{Does}
use Rattle.file_model.specs.Files.{close_all}
use Rattle.mck_word.specs.Lists.{without}
use Rattle.mck_word.specs.Maps.{collect, each}
use Rattle.mck_word.specs.declared.Regs.{Regs}
use Rattle.mck_word.specs.declared.Tid.{Tid}
use Rattle.std.specs.Prelude.{List, None, Some, [], cond, false, filter, not, pos, take, ℕ, ◌+◌, ◌==◌, ◌∷◌}

-- the thread has run for n instructions, with what it has and does then
abbrev pub ran_over : ℕ → Regs → Does → ℕ → Node → Node
ran_over t r d n node =
    change_process (thread_of node t).process (λ (p : Process). record p { instructions = p.instructions + n })
    (change_thread t (λ (x : Thread). record x { regs = r; does = d; back = false }) node)

-- a signal is pending no longer for the threads of a process
abbrev pub threads_without_pending : ℕ → ℕ → Node → Node
threads_without_pending p signal node = record node {
  threads = each (λ (y : Thread). cond (y.process == p) (record y { pending = without_signal signal y.pending }) y) node.threads;
}

-- a process has no thread, no sleeper and no descriptor
abbrev pub emptied : ℕ → Node → Node
emptied p node = record node {
  threads = collect (λ t (x : Thread). cond (x.process == p) None (Some x)) node.threads;
  sleepers = filter (λ (x : Sleeper). not (x.process == p)) node.sleepers;
  files = close_all p node.files;
}

-- the threads answer 0, one after another
abbrev pub all_answered : List Tid → Node → Node
all_answered [] node = node
all_answered (t ∷ ts) node = all_answered ts (answered t.0 (pos 0) node)

-- a line of the script is sent
abbrev pub without_line : ℕ → Node → Node
without_line k node = record node { unsent = filter (λ (x : ScriptLine). not (line_is k x)) node.unsent }

-- the first n that sleep at the address leave the queue
abbrev pub left_queue : ℕ → ℕ → ℕ → Node → Node
left_queue process address n node = record node { sleepers = without (is_waiter (take n (waiters node process address))) node.sleepers }
