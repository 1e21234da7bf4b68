-- Numbers of an assembler text: decimal with an optional sign, or 0x and hexadecimal digits.
use Rattle.std.specs.Prelude.{ℕ, ◌+◌, ◌-◌, ◌*◌, ◌^◌, ◌==◌, ◌&&◌, ◌||◌, nat_lt, nat_le, nat_eq, codes, List, [], ◌∷◌, drop, Option, Some, None, option_map, ℤ, pos, neg_ℤ, true, false, if◌then◌else◌}
use Rattle.std.specs.List.{starts_with}
use Rattle.mck_word.specs.Numbers.{number_of}
use Rattle.guest_asm.specs.declared.numbers.Number.{Number}

infixl 10 ◌>>=◌
abbrev pub ◌>>=◌ : {A B : Type 0} → Option A → (A → Option B) → Option B
None >>= f = None
(Some x) >>= f = f x

abbrev pub hex_digit : ℕ → Option ℕ
hex_digit b =
    if nat_le 48 b && nat_le b 57 then Some (b - 48)
    else (if nat_le 97 b && nat_le b 102 then Some (b - 87)
    else (if nat_le 65 b && nat_le b 70 then Some (b - 55)
    else None))

-- a digit behind a number, as long as it stays below 2 ^ 64
abbrev pub hex_more : ℕ → ℕ → Option ℕ
hex_more n d = if nat_lt (n * 16 + d) (2 ^ 64) then Some (n * 16 + d) else None

abbrev pub hex_digits : ℕ → List ℕ → Option ℕ
hex_digits n [] = Some n
hex_digits n (b ∷ bs) = hex_digit b >>= λ d. hex_more n d >>= λ m. hex_digits m bs

abbrev pub hex_of : List ℕ → Option ℕ
hex_of [] = None
hex_of (b ∷ bs) = hex_digits 0 (b ∷ bs)

abbrev pub size_of : List ℕ → Option ℕ
size_of word = if starts_with nat_eq word (codes "0x") then hex_of (drop 2 word) else number_of word

abbrev pub below_zero : ℕ → Number
below_zero n = record { negative = true; size = n }

abbrev pub from_zero : ℕ → Number
from_zero n = record { negative = false; size = n }

-- the number that a word is
abbrev pub literal_of : List ℕ → Option Number
literal_of [] = None
literal_of (b ∷ bs) = if b == 45 then option_map below_zero (number_of bs) else option_map from_zero (size_of (b ∷ bs))

-- The number with its sign, as long as it doesn't pass 2 ^ 20 on either side. No instruction with a sign takes a larger one.
abbrev pub immediate_of : Number → Option ℤ
immediate_of n = if nat_lt 0x100000 n.size then None else Some (if n.negative then neg_ℤ (pos n.size) else pos n.size)

-- the number, if it is one from 0 to `most`
abbrev pub natural_of : ℕ → Number → Option ℕ
natural_of most n = if (n.negative && nat_lt 0 n.size) || nat_lt most n.size then None else Some n.size
