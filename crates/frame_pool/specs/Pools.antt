-- The frames of a node: how many there are, and which of them are free.
use Rattle.mck_word.specs.Lists.{count_from}
use Rattle.std.specs.Prelude.{Bool, List, filter, ℕ}

-- the free frames stand in rising order
pub record Pool : Type 0 where
  pub frames : ℕ
  pub free : List ℕ

-- the n numbers from low on that pass, in rising order
abbrev pub passing : (ℕ → Bool) → ℕ → ℕ → List ℕ
passing test low n = filter test (count_from low n)
