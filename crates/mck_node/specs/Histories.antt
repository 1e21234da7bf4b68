-- What contracts see of a node: the state of its machine, and the journal so far.
use Rattle.hybrid_model.specs.Events.{after}
use Rattle.hybrid_model.specs.Journals.{may_all, state}
use Rattle.hybrid_model.specs.Pairs.{Pair}
use Rattle.hybrid_model.specs.declared.events.Event.{Event}
use Rattle.std.specs.Prelude.{List, [], true, ◌++◌, ◌∷◌, ◌≡◌}

pub record History : Type 0 where
  pub pair : Pair
  pub journal : List Event

-- before the first event
abbrev pub begun : Pair → History
begun pair = record { pair = pair; journal = [] }

-- one event more
abbrev pub noted : History → Event → History
noted h e = record { pair = after h.pair e; journal = h.journal ++ e ∷ [] }

-- a list that begins with another
pub record Begins {X : Type 0} (xs ys : List X) : Type 0 where
  pub rest : List X
  pub same : ys ≡ xs ++ rest

-- The journal is legal from the state that it began in, leads to the state, and goes on from the one before.
pub record IsHistory (start : Pair) (before : List Event) (h : History) : Type 0 where
  pub legal : may_all start h.journal ≡ true
  pub state : h.pair ≡ state start h.journal
  pub goes_on : Begins before h.journal
