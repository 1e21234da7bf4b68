-- What comes of quanta of a thread in the state of the two kernels.
use Rattle.hybrid_model.specs.Events.{after, of_thread}
use Rattle.hybrid_model.specs.Pairs.{Pair, here}
use Rattle.hybrid_model.specs.Run.{executed_in_run}
use Rattle.hybrid_model.specs.declared.events.Event.TheVariants.{Run}
use Rattle.mck_word.specs.declared.Tid.{Tid}
use Rattle.node_quanta.specs.Happening.{Fits, IsStale}
use Rattle.node_quanta.specs.declared.stale.Stale.{Stale}
use Rattle.rv_quantum.specs.Told.{total}
use Rattle.rv_quantum.specs.declared.quanta.Quanta.{Quanta}
use Rattle.std.specs.Prelude.{Err, Ok, Result, ℕ, ◌≡◌}

-- the thread runs for all instructions of the quanta, and executes them all
pub record RanOver (core : ℕ) (t : Tid) (q : Quanta) (old new : Pair) : Type 0 where
  pub fits : Fits old core t.0 q
  pub executed : total q ≡ executed_in_run t.0 (total q) (here old (of_thread old.node t.0))
  pub event : new ≡ after old (Run core t (total q))

-- they happen, or nothing does, and the first reason against them is told
abbrev pub Comes : ℕ → Tid → Quanta → Pair → Result ℕ Stale → Pair → Type 0
Comes core t q old (Ok n) new = (n ≡ total q) × RanOver core t q old new
Comes core t q old (Err s) new = IsStale old core t.0 q s × (new ≡ old)
