-- What the calls by which a thread rests, and those that make a thread or a process, need of the node.
use Rattle.file_model.specs.Files.{Files}
use Rattle.kernel_model.specs.LocalCalls.{waiters}
use Rattle.kernel_model.specs.Nodes.{has_process, has_thread, most_threads, thread_of}
use Rattle.kernel_tables.specs.Shown.{node_of}
use Rattle.kernel_tables.specs.declared.tables.KernelTables.{KernelTables}
use Rattle.std.specs.List.{list_any}
use Rattle.std.specs.Prelude.{IsTrue, false, length, ℕ, ◌-◌, ◌<◌, ◌==◌, ◌^◌, ◌≡◌, ◌≤◌}

-- the thread sleeps nowhere, fewer than sixteen of its process sleep at an address, and there is room for a sleeper
pub record MayRest (node : KernelTables) (t : ℕ) : Type 0 where
  pub room : 1 ≤ node.sleepers.spare
  pub awake : (files : Files) → list_any (λ s. s.thread == t) (node_of node files).sleepers ≡ false
  pub few : (files : Files) (address : ℕ) → length (waiters (node_of node files) (thread_of (node_of node files) t).process address) < most_threads

-- the thread lives, there is room for one more, and its number fits
pub record MayClone (node : KernelTables) (t : ℕ) : Type 0 where
  pub room : 1 ≤ node.threads.spare
  pub lives : (files : Files) → IsTrue (has_thread (node_of node files) t)
  pub below : (files : Files) → (node_of node files).next_number < 2 ^ 32 - 1

-- and its process was made; there is room for a process, too
pub record MayFork (node : KernelTables) (t : ℕ) : Type 0 where
  pub clone : MayClone node t
  pub room : 1 ≤ node.processes.spare
  pub there : (files : Files) → IsTrue (has_process (node_of node files) (thread_of (node_of node files) t).process)
