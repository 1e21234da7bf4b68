-- Decimal numbers without sign or leading zero.
-- Source: this project's own.
use Rattle.std.specs.Prelude.{ℕ, ◌+◌, ◌-◌, ◌*◌, ◌^◌, ◌==◌, nat_lt, List, [], ◌∷◌, Option, Some, None, if◌then◌else◌}

-- the digits after a number, as long as it stays below 2 ^ 64
abbrev pub digits : ℕ → List ℕ → Option ℕ
digits n [] = Some n
digits n (d ∷ ds) =
    if nat_lt d 48 then None else (if nat_lt 57 d then None else (if nat_lt (n * 10 + (d - 48)) (2 ^ 64) then digits (n * 10 + (d - 48)) ds else None))

-- no digit follows a 0
abbrev pub from_digit : ℕ → List ℕ → Option ℕ
from_digit d [] = digits 0 (d ∷ [])
from_digit d (e ∷ ds) = if d == 48 then None else digits 0 (d ∷ e ∷ ds)

abbrev pub number_of : List ℕ → Option ℕ
number_of [] = None
number_of (d ∷ ds) = from_digit d ds
