-- Numbers that stand in groups.
-- Source: this project's own.
use Rattle.mck_word.specs.Maps.{Map, at, cut, put}
use Rattle.std.specs.Prelude.{Bool, false, is_some, nat_lt, true, ℕ, ◌&&◌, ◌*◌, ◌+◌, ◌<◌, ◌^◌, ◌≡◌, ◌≤◌}

-- the place of a number of a group among all: a group's numbers stand together, in order
abbrev pub key_of : ℕ → ℕ → ℕ
key_of group number = group * 2 ^ 32 + number

abbrev pub Grouped : Type 0
Grouped = Map (Unit {0})

-- whether the number stands in the group
abbrev pub is_in : Grouped → ℕ → ℕ → Bool
is_in m group number = nat_lt number (2 ^ 32) && is_some (at m (key_of group number))

abbrev pub with_number : Grouped → ℕ → ℕ → Grouped
with_number m group number = put m (key_of group number) tt

abbrev pub without_number : Grouped → ℕ → ℕ → Grouped
without_number m group number = cut m (key_of group number)

-- none stands in the group from there on
abbrev pub NoneFrom : Grouped → ℕ → ℕ → Type 0
NoneFrom m group from = (n : ℕ) → from ≤ n → is_in m group n ≡ false

-- the number is the least of the group from there on
pub record IsNext (m : Grouped) (group from number : ℕ) : Type 0 where
  pub from_there : from ≤ number
  pub stands : is_in m group number ≡ true
  pub least : (n : ℕ) → from ≤ n → n < number → is_in m group n ≡ false
