-- The words of a line, and the numbers among them.
use Rattle.std.specs.Prelude.{ℕ, ◌-◌, ◌==◌, ◌&&◌, ◌||◌, not, nat_lt, nat_le, bytes_eq, List, [], ◌∷◌, Bool, false, length, slice_get, unwrap_or}
use Rattle.std.specs.List.{list_any, list_all, slice_split}

-- what stands between the spaces, empty words among them
abbrev pub words_of : List ℕ → List (List ℕ)
words_of line = slice_split (λ b. b == 32) line

abbrev pub word_at : List (List ℕ) → ℕ → List ℕ
word_at words place = unwrap_or (slice_get words place) []

abbrev pub is_empty : List ℕ → Bool
is_empty word = length word == 0

abbrev pub has_empty : List (List ℕ) → Bool
has_empty words = list_any is_empty words

-- whether not so many words stand behind the key, or one is empty
abbrev pub miscounts : ℕ → ℕ → List (List ℕ) → Bool
miscounts least most words = nat_le (length words) least || (nat_lt most (length words - 1) || has_empty words)

abbrev pub is_key : List ℕ → List ℕ → Bool
is_key key word = bytes_eq word key

abbrev pub is_digit : ℕ → Bool
is_digit b = nat_le 48 b && nat_le b 57

-- a decimal number of any size, without a leading zero
abbrev pub is_decimal : List ℕ → Bool
is_decimal [] = false
is_decimal (d ∷ ds) = list_all is_digit (d ∷ ds) && not (d == 48 && not (is_empty ds))
