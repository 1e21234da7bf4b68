-- What the events need of the channel of a process.
use Rattle.hybrid_model.specs.Rings.{ring}
use Rattle.ikc_channel.specs.Lines.{Lines}
use Rattle.lwk_side.specs.declared.kernel.Lwk.{Lwk}
use Rattle.lwk_side.specs.declared.task.Caller.{Caller}
use Rattle.mck_word.specs.Maps.{Map, at}
use Rattle.std.specs.Prelude.{Some, length, ℕ, ◌%◌, ◌<◌, ◌^◌, ◌≡◌, ◌≤◌}

-- there are cores, at most eight, and rings, as many as the channel has
pub record Wired (lwk : Lwk) (lines : Lines) : Type 0 where
  pub some_core : 1 ≤ lwk.cores
  pub few_cores : lwk.cores ≤ 8
  pub some_ring : 1 ≤ lwk.rings
  pub many : length lines.messages ≡ lwk.rings

-- the ring of a thread takes one more message
abbrev pub HasPlace : Lwk → Lines → ℕ → Type 0
HasPlace lwk lines t = length (ring (t % lwk.cores % lwk.rings) lines.messages) < lines.capacity

-- the threads that call have numbers of 32 bits
abbrev pub CallersFit : Map Caller → Type 0
CallersFit callers = (t : ℕ) (c : Caller) → at callers t ≡ Some c → t < 2 ^ 32
