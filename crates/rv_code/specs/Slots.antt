-- A quicker way to the row of a word: by a table of slots.
use Rattle.std.specs.Prelude.{ℕ, ◌+◌, ◌*◌, ◌/◌, ◌%◌, ◌^◌, List, Option, Some, None, slice_index, slice_get, if◌then◌else◌}
use Rattle.isa_model.specs.Decode.{fits}
use Rattle.isa_model.specs.declared.shapes.Row.{Row}

-- a word's slot: the opcode's upper five bits, funct3, bit 30 and bit 20
abbrev pub slot_of : ℕ → ℕ
slot_of w = w / 2 ^ 2 % 32 * 32 + w / 2 ^ 12 % 8 * 4 + w / 2 ^ 30 % 2 * 2 + w / 2 ^ 20 % 2

abbrev pub if_fits : ℕ → Option Row → Option Row
if_fits w None = None
if_fits w (Some row) = if fits row w then Some row else None

-- the row that the word's slot names, if the word fits it
abbrev pub row_in : List ℕ → List Row → ℕ → Option Row
row_in slots rows w = if_fits w (slice_get rows (slice_index slots (slot_of w)))
