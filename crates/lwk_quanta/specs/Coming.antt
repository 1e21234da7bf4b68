-- What comes of quanta of a thread in its process.
use Rattle.hybrid_model.specs.OneProcess.{memory_here}
use Rattle.hybrid_model.specs.Pairs.{Here}
use Rattle.hybrid_model.specs.Run.{executed_in_run, run}
use Rattle.kernel_model.specs.Nodes.{thread_of}
use Rattle.rv_quantum.specs.Differing.{FirstDiffers}
use Rattle.rv_quantum.specs.Promised.{Agrees}
use Rattle.rv_quantum.specs.Told.{first_regs, pages_seen, total}
use Rattle.rv_quantum.specs.declared.differs.Differs.{Differs}
use Rattle.rv_quantum.specs.declared.quanta.Quanta.{Quanta}
use Rattle.std.specs.Prelude.{None, Option, Some, ℕ, ◌≡◌}

-- the registers and the pages are those that the quanta saw, and the thread runs for all their instructions
pub record RanOver (t : ℕ) (q : Quanta) (old new : Here) : Type 0 where
  pub regs : (thread_of old.node t).regs ≡ first_regs q
  pub pages : Agrees (pages_seen q) (memory_here old)
  pub event : new ≡ run t (total q) old
  pub executed : total q ≡ executed_in_run t (total q) old

-- they happen, or nothing does, and the first thing that differs is told
abbrev pub Comes : ℕ → Quanta → Here → Option Differs → Here → Type 0
Comes t q old None new = RanOver t q old new
Comes t q old (Some d) new =
    FirstDiffers (first_regs q) (pages_seen q) (thread_of old.node t).regs (memory_here old) d × (new ≡ old)
