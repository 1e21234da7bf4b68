-- Turns of instances, by their rows and in slots.
-- Source: this project's own.
use Rattle.mck_word.specs.Maps.{Map, collect}
use Rattle.node_parts.specs.Partitions.{Booted, gone_on}
use Rattle.std.specs.Option.{option_map}
use Rattle.std.specs.Prelude.{Bool, List, Option, Some, [], cond, suc, ℕ, ◌∷◌}

-- each booted instance whose number passes goes on by one event
abbrev pub rows_turned : (ℕ → Bool) → Map (Option Booted) → Map (Option Booted)
rows_turned passes rows = collect (λ i booted. Some (cond (passes i) (option_map gone_on booted) booted)) rows

abbrev pub turned_slot : Bool → Option (Option Booted) → Option (Option Booted)
turned_slot passes slot = option_map (λ booted. cond passes (option_map gone_on booted) booted) slot

abbrev pub turned_from : (ℕ → Bool) → ℕ → List (Option (Option Booted)) → List (Option (Option Booted))
turned_from passes k [] = []
turned_from passes k (slot ∷ slots) = turned_slot (passes k) slot ∷ turned_from passes (suc k) slots

-- the same of slots, by their places
abbrev pub turned_slots : (ℕ → Bool) → List (Option (Option Booted)) → List (Option (Option Booted))
turned_slots passes slots = turned_from passes 0 slots
