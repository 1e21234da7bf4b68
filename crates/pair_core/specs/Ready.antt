-- What an event that may happen finds.
use Rattle.hybrid_model.specs.Events.{may}
use Rattle.hybrid_model.specs.Pairs.{Pair}
use Rattle.hybrid_model.specs.declared.events.Event.{Event}
use Rattle.node_machine.specs.Reached.{IsSound}
use Rattle.std.specs.Prelude.{true, ◌≡◌}

-- the event may happen in a state that the two kernels reach
pub record Ready (pair : Pair) (e : Event) : Type 0 where
  pub sound : IsSound pair
  pub may : may pair e ≡ true
