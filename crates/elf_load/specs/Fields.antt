-- Little-endian fields of a file.
use Rattle.std.specs.Prelude.{ℕ, List, drop}
use Rattle.byteorder.specs.Endian.{little_number}

-- the number in the `size` bytes from a place on
unfoldable pub field : ℕ → ℕ → List ℕ → ℕ
field size place bytes = little_number size (drop place bytes)
