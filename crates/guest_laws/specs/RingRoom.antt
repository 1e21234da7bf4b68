-- Rings that are never full.
use Rattle.hybrid_model.specs.Events.{after}
use Rattle.hybrid_model.specs.Pairs.{Pair, side_of}
use Rattle.hybrid_model.specs.Rings.{ring}
use Rattle.hybrid_model.specs.declared.events.Event.{Event}
use Rattle.std.specs.Prelude.{length, ℕ, ◌+◌, ◌<◌, ◌≤◌}

-- no ring has more messages than it takes
pub record RingsFit (pair : Pair) : Type 0 where
  pub to_linux : (p r : ℕ) → length (ring r (side_of pair p).to_linux) ≤ 49 + pair.workers
  pub to_lwk : (p : ℕ) → length (side_of pair p).to_lwk ≤ 17 + pair.workers

-- a ring that the event makes longer is not full before it
pub record FindsRoom (pair : Pair) (e : Event) : Type 0 where
  pub to_linux : (p r : ℕ) → length (ring r (side_of pair p).to_linux) < length (ring r (side_of (after pair e) p).to_linux) → length (ring r (side_of pair p).to_linux) < 49 + pair.workers
  pub to_lwk : (p : ℕ) → length (side_of pair p).to_lwk < length (side_of (after pair e) p).to_lwk → length (side_of pair p).to_lwk < 49 + pair.workers
