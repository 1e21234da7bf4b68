-- How many instructions an event and a journal execute.
use Rattle.hybrid_model.specs.Events.{after, process_of_event}
use Rattle.hybrid_model.specs.Pairs.{Here, Pair, here}
use Rattle.hybrid_model.specs.Run.{executed_in_run}
use Rattle.hybrid_model.specs.declared.events.Event.TheVariants.{Run}
use Rattle.hybrid_model.specs.declared.events.Event.{Event}
use Rattle.std.specs.Prelude.{List, [], ℕ, ◌+◌, ◌∷◌}

-- a Run executes up to as many as it names, and no other event executes any
abbrev pub executed_here : Event → Here → ℕ
executed_here (Run core t n) h = executed_in_run t.0 n h
executed_here _ h = 0

abbrev pub executed_by : Pair → Event → ℕ
executed_by pair e = executed_here e (here pair (process_of_event pair.node e))

abbrev pub executed_in : Pair → List Event → ℕ
executed_in pair [] = 0
executed_in pair (e ∷ es) = executed_by pair e + executed_in (after pair e) es
