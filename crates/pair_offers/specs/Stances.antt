-- How a worker stands, and which of its events are left by that.
use Rattle.hybrid_model.specs.Workers.{has_pin, holds}
use Rattle.hybrid_model.specs.Sides.{Side}
use Rattle.hybrid_model.specs.declared.events.Event.{Event}
use Rattle.hybrid_model.specs.declared.events.Event.TheVariants.{Act, Copy, Finish, Miss, Park, Pin, Unpin}
use Rattle.mck_word.specs.Identifiers.{pid}
use Rattle.pair_offers.specs.declared.stance.Stance.{Stance}
use Rattle.pair_offers.specs.declared.stance.Stance.TheVariants.{Holding, Other, Pinned}
use Rattle.std.specs.Prelude.{List, [], cond, ℕ, ◌∷◌}

-- it has a pin, it holds a request without one, or neither
abbrev pub stance_of : Side → ℕ → Stance
stance_of s w = cond (has_pin s.linux w) Pinned (cond (holds s.linux s.book w) Holding Other)

-- the events that may happen at all for a worker that stands so, in the order in which they are asked
abbrev pub left_events : Stance → ℕ → ℕ → List Event
left_events Pinned p w = let x = pid p in Copy x w ∷ Unpin x w ∷ []
left_events Holding p w = let x = pid p in Miss x w ∷ Pin x w ∷ Act x w ∷ Park x w ∷ []
left_events Other p w = Finish (pid p) w ∷ []
