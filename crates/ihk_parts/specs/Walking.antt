-- Journals that follow the turns.
use Rattle.hybrid_model.specs.Events.{after, may}
use Rattle.hybrid_model.specs.Journals.{may_all, state}
use Rattle.hybrid_model.specs.Pairs.{Pair}
use Rattle.hybrid_model.specs.declared.events.Event.{Event}
use Rattle.ihk_parts.specs.Turns.{chosen, turn_after}
use Rattle.ihk_parts.specs.declared.turn.Turn.{Turn}
use Rattle.run_model.specs.Walks.{Chosen, Walker}
use Rattle.std.specs.Prelude.{◌≡◌, ◌<◌, List, [], ◌∷◌, Some, None, true}
use Rattle.work_laws.specs.Left.{left}

-- Each event of the journal is the one whose turn it was. The last two are the turn and the state after it.
abbrev pub Follows : Turn → Pair → List Event → Turn → Pair → Type 0
Follows turn pair [] last end = (last ≡ turn) × (end ≡ pair)
Follows turn pair (e ∷ es) last end =
    (c : Chosen) × (chosen turn pair ≡ Some c) × (e ≡ c.event) × Follows (turn_after turn c) (after pair e) es last end

-- a walk that starts from a state
abbrev pub walker_at : Pair → Walker
walker_at pair = record { pair = pair; last = None; drawn = 0 }

-- Behind each legal journal from a state on, whatever may happen next lessens what is left to do.
abbrev pub LeavesLess : Pair → Type 0
LeavesLess pair = (journal : List Event) (e : Event) → may_all pair journal ≡ true → may (state pair journal) e ≡ true → left (after (state pair journal) e) < left (state pair journal)
