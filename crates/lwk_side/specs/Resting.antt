-- What the calls by which a thread rests need of the node.
use Rattle.file_model.specs.Files.{Files}
use Rattle.kernel_model.specs.LocalCalls.{waiters}
use Rattle.kernel_model.specs.Nodes.{most_threads, thread_of}
use Rattle.kernel_tables.specs.Shown.{node_of}
use Rattle.kernel_tables.specs.declared.tables.KernelTables.{KernelTables}
use Rattle.std.specs.List.{list_any}
use Rattle.std.specs.Prelude.{false, length, ℕ, ◌<◌, ◌==◌, ◌≡◌, ◌≤◌}

-- the thread sleeps nowhere, fewer than sixteen of its process sleep at an address, and there is room for a sleeper
pub record MayRest (node : KernelTables) (t : ℕ) : Type 0 where
  pub room : 1 ≤ node.sleepers.spare
  pub awake : (files : Files) → list_any (λ s. s.thread == t) (node_of node files).sleepers ≡ false
  pub few : (files : Files) (address : ℕ) → length (waiters (node_of node files) (thread_of (node_of node files) t).process address) < most_threads
