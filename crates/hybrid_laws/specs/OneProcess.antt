-- What a law of an event on one process asks of the node, of the rings, and of the frames.
use Rattle.hybrid_model.specs.Globals.{Places, Sleeping, Frames}
use Rattle.hybrid_model.specs.Pairs.{Here}
use Rattle.hybrid_model.specs.Sides.{Row}
use Rattle.hybrid_model.specs.Spaces.{Space}
use Rattle.hybrid_model.specs.Tallies.{Reads}
use Rattle.kernel_model.specs.Nodes.{Node, Thread, Process}
use Rattle.mck_word.specs.Maps.{at}
use Rattle.std.specs.Prelude.{Some, length, ℕ, ◌<◌, ◌==◌, ◌≡◌, ◌≤◌, if◌then◌else◌}

-- what the node's own part of coherence gives the laws of one event
pub record NodeHolds (node : Node) : Type 0 where
  pub sleeping : Sleeping node
  pub places : Places node
  pub below : (t : ℕ) (x : Thread) → at node.threads t ≡ Some x → t < node.next_number
  pub made_below : (p : ℕ) (x : Process) → at node.processes p ≡ Some x → p < node.next_number

-- the rings of a process
pub record RingsHold (h : Here) : Type 0 where
  pub some : 1 ≤ h.rings
  pub all : length h.side.to_linux ≡ h.rings

abbrev pub with_table : (ℕ → Reads Row) → ℕ → Reads Row → ℕ → Reads Row
with_table tables p t q = if q == p then t else tables q

-- the frames, where process p has the table of this memory
abbrev pub FramesOf : (ℕ → Reads Row) → ℕ → Space → Type 0
FramesOf tables p sp = Frames (with_table tables p (at sp.table)) sp.free
