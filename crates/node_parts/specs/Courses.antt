-- The course of a machine on its walk: where it began, its order, and how many events it has made. All else that a walk
-- keeps follows from these.
-- Source: this project's own.
use Rattle.hybrid_model.specs.Journals.{ending, may_all, state}
use Rattle.hybrid_model.specs.Pairs.{Pair}
use Rattle.hybrid_model.specs.declared.events.Ending.TheVariants.{Unfinished}
use Rattle.hybrid_model.specs.declared.events.Event.{Event}
use Rattle.ihk_parts.specs.Turns.{turn_at, words_of}
use Rattle.ihk_parts.specs.Walking.{LeavesLess, walker_at}
use Rattle.ihk_parts.specs.declared.turn.Turn.{Turn}
use Rattle.node_parts.specs.Partitions.{walked}
use Rattle.quiet_laws.specs.Quiet.{IsQuiet}
use Rattle.run_model.specs.Walks.{Chosen, Walker, moved, next_choice, walk_for}
use Rattle.std.specs.Prelude.{Bool, List, None, Option, Some, cond, is_some, true, ℕ, ◌+◌, ◌≡◌, ◌≢◌, ◌≤◌}

pub record Course : Type 0 where
  pub start : Pair
  pub order : ℕ
  pub made : ℕ

-- where it stands, and its events so far
abbrev pub place : Course → Walker
place c = walked (words_of c.order) c.made (walker_at c.start)

abbrev pub events : Course → List Event
events c = walk_for (words_of c.order) c.made (walker_at c.start)

-- the course after its next event, if there is one
abbrev pub has_next : Course → Bool
has_next c = is_some (next_choice (words_of c.order) (place c))

abbrev pub one_further : Course → Course
one_further c = cond (has_next c) (record c { made = c.made + 1 }) c

-- the place after the next event, if there is one
abbrev pub one_on : Option (ℕ → ℕ) → Walker → Walker
one_on words w = elim (next_choice words w) [ None ↦ w | Some c ↦ moved c w ]

-- the same walk, perhaps further on
pub record GoesOn (old new : Course) : Type 0 where
  pub start : new.start ≡ old.start
  pub order : new.order ≡ old.order
  pub made : old.made ≤ new.made

-- nobody has an offer there, and the run is over
pub record IsAtEnd (words : Option (ℕ → ℕ)) (w : Walker) : Type 0 where
  pub none : next_choice words w ≡ None
  pub over : ending w.pair ≢ Unfinished

-- ---- what a walk keeps

-- Whose turn it is: that of the place; or an event of the place was chosen and waits for room, and it is the turn
-- behind it.
abbrev pub Waits : ℕ → Walker → Turn → Option Event → Type 0
Waits order w turn None = turn ≡ turn_at order w.last w.drawn
Waits order w turn (Some e) =
    (c : Chosen) × (next_choice (words_of order) w ≡ Some c) × (e ≡ c.event)
    × (turn ≡ turn_at order (moved c w).last (moved c w).drawn)

pub record IsOn (c : Course) (now : Pair) (whose : Turn) (waiting : Option Event) (noted : List Event) (still : Bool)
    : Type 0 where
  pub ends : LeavesLess c.start
  pub pair : now ≡ (place c).pair
  pub turn : Waits c.order (place c) whose waiting
  pub journal : noted ≡ events c
  pub legal : may_all c.start noted ≡ true
  pub state : now ≡ state c.start noted
  pub quiet : still ≡ true → IsQuiet now
