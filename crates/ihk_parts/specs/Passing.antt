-- Passing over the offers of actors in their order.
use Rattle.hybrid_model.specs.Pairs.{Pair}
use Rattle.ihk_parts.specs.declared.passing.Choice.{Choice}
use Rattle.mck_word.specs.Lists.{count_from}
use Rattle.mck_word.specs.Maps.{keys}
use Rattle.mck_word.specs.declared.Pid.{Pid}
use Rattle.run_model.specs.Walks.{Chosen, actors_of_process, chosen_by}
use Rattle.run_model.specs.declared.actors.Actor.{Actor}
use Rattle.run_model.specs.declared.actors.Actor.TheVariants.{Core, Worker, Script}
use Rattle.std.specs.List.{filter_map}
use Rattle.std.specs.Prelude.{◌≡◌, ℕ, ◌+◌, ◌-◌, ◌==◌, cond, List, [], ◌∷◌, ◌++◌, map, flat_map, length, Option, Some, None, slice_get}

abbrev pub as_chosen : Choice → Chosen
as_chosen c = record { actor = c.actor; event = c.event }

-- the offers of these actors
abbrev pub offers_of : Pair → List Actor → List Chosen
offers_of pair actors = filter_map (chosen_by pair) actors

-- Of the actors' offers, so many are passed over: the one behind these is found, or all are passed over and the rest of the number is left.
abbrev pub Goes : Pair → List Actor → ℕ → Option Choice → ℕ → Type 0
Goes pair actors skip (Some c) left = slice_get (offers_of pair actors) skip ≡ Some (as_chosen c)
Goes pair actors skip None left = skip ≡ left + length (offers_of pair actors)

-- ---- the actors from a place on

abbrev pub cores_from : Pair → ℕ → List Actor
cores_from pair first = map (λ c. Core c) (count_from first (pair.cores - first))

abbrev pub workers_from : Pair → Pid → ℕ → List Actor
workers_from pair p first = map (λ w. Worker p w) (count_from first (pair.workers - first))

-- those of the processes with these numbers, and the script
abbrev pub processes_and_script : Pair → List ℕ → List Actor
processes_and_script pair numbers = flat_map (actors_of_process pair) numbers ++ Script ∷ []

-- the numbers behind p, or None where it isn't among them
abbrev pub numbers_behind : ℕ → List ℕ → Option (List ℕ)
numbers_behind p [] = None
numbers_behind p (q ∷ qs) = cond (p == q) (Some qs) (numbers_behind p qs)

-- these actors of a process and all that come behind the process, or none where it isn't there
abbrev pub with_those_behind : Pair → List Actor → Option (List ℕ) → List Actor
with_those_behind pair own None = []
with_those_behind pair own (Some numbers) = own ++ processes_and_script pair numbers

abbrev pub on_from : Pair → List Actor → Pid → List Actor
on_from pair own p = with_those_behind pair own (numbers_behind p.0 (keys pair.node.processes))
