-- Whose turn it is in a walk: the turn of an order, what it chooses, and the turn after it.
use Rattle.hybrid_model.specs.Pairs.{Pair}
use Rattle.hybrid_model.specs.declared.events.Event.{Event}
use Rattle.ihk_parts.specs.declared.turn.Turn.{Turn}
use Rattle.ihk_parts.specs.declared.turn.Turn.TheVariants.{Round, Drawn}
use Rattle.rand_core.specs.Pcg32Seed.{pcg32_seed}
use Rattle.rand_pcg.specs.Lcg.{Lcg}
use Rattle.rand_pcg.specs.Pcg.{pcg32, pcg32_of_seed}
use Rattle.run_model.specs.Walks.{Chosen, next_by_word, next_in_turn}
use Rattle.run_model.specs.declared.actors.Actor.{Actor}
use Rattle.std.specs.Prelude.{ℕ, zero, suc, ◌==◌, cond, Option, Some, None}

-- ---- turns

abbrev pub chosen : Turn → Pair → Option Chosen
chosen (Round last) pair = next_in_turn last pair
chosen (Drawn generator) pair = next_by_word (pcg32 generator).0 pair

abbrev pub turn_after : Turn → Chosen → Turn
turn_after (Round last) c = Round (Some c.actor)
turn_after (Drawn generator) c = Drawn (pcg32 generator).1

abbrev pub first_turn : ℕ → Turn
first_turn order = cond (order == 0) (Round None) (Drawn (pcg32_of_seed (pcg32_seed 16 order)))

abbrev pub event_of : Chosen → Event
event_of c = c.event

-- ---- the words of an order

-- the generator after so many words
abbrev pub generator : ℕ → ℕ → Lcg
generator order zero = pcg32_of_seed (pcg32_seed 16 order)
generator order (suc n) = (pcg32 (generator order n)).1

abbrev pub word : ℕ → ℕ → ℕ
word order n = (pcg32 (generator order n)).0

-- those that a walk of the order draws: none with order 0
abbrev pub words_of : ℕ → Option (ℕ → ℕ)
words_of order = cond (order == 0) None (Some (word order))

-- the turn of an order, where the last actor was this one and so many words were drawn
abbrev pub turn_at : ℕ → Option Actor → ℕ → Turn
turn_at order last drawn = cond (order == 0) (Round last) (Drawn (generator order drawn))
