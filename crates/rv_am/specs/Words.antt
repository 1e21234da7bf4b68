-- Words of multiplication, division and atomic operations: what an instruction's fields may be, its word, and a quicker way through the table.
use Rattle.std.specs.Prelude.{ℕ, ◌+◌, ◌*◌, ◌/◌, ◌%◌, ◌^◌, ◌==◌, Bool, ◌&&◌, nat_lt, List, Option, Some, None, slice_index, slice_index_or, slice_get, if◌then◌else◌}
use Rattle.isa_model.specs.declared.atomics.AmOp.{AmOp}
use Rattle.isa_model.specs.declared.atomics.AmOp.TheVariants.{Mul, Mulh, Mulhsu, Mulhu, Div, Divu, Rem, Remu, Mulw, Divw, Divuw, Remw, Remuw, AddW, SwapW, XorW, OrW, AndW, MinW, MaxW, MinuW, MaxuW, AddD, SwapD, XorD, OrD, AndD, MinD, MaxD, MinuD, MaxuD}
use Rattle.isa_model.specs.Atomics.{AmIns, AmRow, am_table, am_fits, is_atomic}
use Rattle.rv_am.specs.declared.table.Row.{Row}

-- an instruction of these fields
abbrev pub am : AmOp → ℕ → ℕ → ℕ → ℕ → AmIns
am op rd rs1 rs2 order = record { op = op; rd = rd; rs1 = rs1; rs2 = rs2; order = order }

-- the fields fit their places; only an atomic instruction has an order
unfoldable pub is_am_code : AmIns → Bool
is_am_code i = nat_lt i.rd 32 && (nat_lt i.rs1 32 && (nat_lt i.rs2 32 && (if is_atomic i.op then nat_lt i.order 4 else i.order == 0)))

-- ---- the word of an instruction

-- where the table has a name
abbrev pub place : AmOp → ℕ
place Mul = 0
place Mulh = 1
place Mulhsu = 2
place Mulhu = 3
place Div = 4
place Divu = 5
place Rem = 6
place Remu = 7
place Mulw = 8
place Divw = 9
place Divuw = 10
place Remw = 11
place Remuw = 12
place AddW = 13
place SwapW = 14
place XorW = 15
place OrW = 16
place AndW = 17
place MinW = 18
place MaxW = 19
place MinuW = 20
place MaxuW = 21
place AddD = 22
place SwapD = 23
place XorD = 24
place OrD = 25
place AndD = 26
place MinD = 27
place MaxD = 28
place MinuD = 29
place MaxuD = 30

abbrev pub row_of : AmOp → AmRow
row_of op = slice_index_or am_table (place op) (record { op = Mul; opcode = 0x33; funct3 = 0; top = 1 })

-- the seven bits at the top
abbrev pub above : AmRow → ℕ → ℕ
above row order = if row.opcode == 0x2f then order + row.top * 4 else row.top

abbrev pub word_in : AmRow → AmIns → ℕ
word_in row i = row.opcode + i.rd * 2 ^ 7 + row.funct3 * 2 ^ 12 + i.rs1 * 2 ^ 15 + i.rs2 * 2 ^ 20 + above row i.order * 2 ^ 25

abbrev pub word_of : AmIns → ℕ
word_of i = word_in (row_of i.op) i

-- ---- slots

-- a row of the code
abbrev pub as_row : Row → AmRow
as_row row = record { op = row.op; opcode = row.opcode; funct3 = row.funct3; top = row.top }

-- a word's slot: bits 3 and 4, funct3, and the five bits at the top
abbrev pub slot_of : ℕ → ℕ
slot_of w = w / 2 ^ 3 % 4 * 256 + w / 2 ^ 12 % 8 * 32 + w / 2 ^ 27 % 32

abbrev pub if_fits : ℕ → Option Row → Option Row
if_fits w None = None
if_fits w (Some row) = if am_fits w (as_row row) then Some row else None

-- the row that the word's slot names, if the word fits it
abbrev pub row_in : List ℕ → List Row → ℕ → Option Row
row_in slots rows w = if_fits w (slice_get rows (slice_index slots (slot_of w)))
