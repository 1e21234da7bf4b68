-- What a legal journal of a prepared job keeps small: cores, workers and rings, the processes, the limit, and with it every number that is given.
use Rattle.hybrid_model.specs.Pairs.{Pair, side_of}
use Rattle.kernel_model.specs.Nodes.{Process, Thread, has_process, instructions_in_all, most_processes}
use Rattle.mck_word.specs.Maps.{at, count}
use Rattle.offer_laws.specs.ChangeFits.{MemoryFits}
use Rattle.std.specs.Prelude.{false, Some, ℕ, ◌<◌, ◌≡◌, ◌≤◌, ◌^◌}

abbrev pub most_instructions : ℕ
most_instructions = 4_000_000

pub record Small (pair : Pair) : Type 0 where
  pub cores : pair.cores ≤ 8
  pub some_worker : 1 ≤ pair.workers
  pub workers : pair.workers ≤ 4
  pub rings : pair.rings ≤ 8
  pub processes : count pair.node.processes ≤ most_processes
  pub positive : has_process pair.node 0 ≡ false
  pub limit : pair.node.limit ≤ most_instructions
  pub memory : MemoryFits pair.node.processes pair.node.threads

-- Numbers of processes and threads are given once, from 17 on, and each is paid for by an instruction; so are numbers of requests, from 1 on.
pub record NumbersFit (pair : Pair) : Type 0 where
  pub processes : (p : ℕ) (x : Process) → at pair.node.processes p ≡ Some x → p < 2 ^ 32
  pub threads : (t : ℕ) (x : Thread) → at pair.node.threads t ≡ Some x → t < 2 ^ 32
  pub next : pair.node.next_number < 2 ^ 32
  pub requests : (p : ℕ) → (side_of pair p).book.next < 2 ^ 32
  pub instructions : instructions_in_all pair.node ≤ most_instructions
