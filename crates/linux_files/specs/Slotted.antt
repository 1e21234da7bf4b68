-- How often slots name a description.
use Rattle.mck_word.specs.Maps.{Map, total}
use Rattle.std.specs.Prelude.{List, None, Option, Some, [], cond, ℕ, ◌+◌, ◌==◌, ◌∷◌}

abbrev pub names_it : ℕ → ℕ → ℕ
names_it d n = cond (n == d) 1 0

-- how many descriptors of a process name it
abbrev pub names_in_row : ℕ → Map ℕ → ℕ
names_in_row d row = total (names_it d) row

abbrev pub slot_names : ℕ → Option ℕ → ℕ
slot_names d None = 0
slot_names d (Some n) = names_it d n

abbrev pub slots_name : ℕ → List (Option ℕ) → ℕ
slots_name d [] = 0
slots_name d (o ∷ os) = slot_names d o + slots_name d os
