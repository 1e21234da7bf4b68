-- Multiplication, division and atomic memory operations: their words and what they compute.
-- Source: RISC-V Unprivileged ISA, M and A without LR and SC; that a misaligned atomic operation stops first is this project's own.
use Rattle.std.specs.Prelude.{ℕ, ◌+◌, ◌-◌, ◌*◌, ◌/◌, ◌%◌, ◌^◌, ◌==◌, Bool, true, false, not, ◌&&◌, nat_lt, int_lt, bit_and, bit_or, bit_xor, List, [], ◌∷◌, Option, Some, None, ℤ, pos, negsuc, neg_ℤ, ◌*ℤ◌, if◌then◌else◌}
use Rattle.std.specs.List.{find}
use Rattle.std.specs.Int.{w64, cast_signed, cast_unsigned, int_shr}
use Rattle.mck_word.specs.Word.{sext_of}
use Rattle.isa_model.specs.declared.atomics.AmOp.{AmOp}
use Rattle.isa_model.specs.declared.atomics.AmOp.TheVariants.{Mul, Mulh, Mulhsu, Mulhu, Div, Divu, Rem, Remu, Mulw, Divw, Divuw, Remw, Remuw, AddW, SwapW, XorW, OrW, AndW, MinW, MaxW, MinuW, MaxuW, AddD, SwapD, XorD, OrD, AndD, MinD, MaxD, MinuD, MaxuD}

-- `order` is bits 25 and 26 of an atomic word, and 0 for the others
pub record AmIns : Type 0 where
  pub op : AmOp
  pub rd : ℕ
  pub rs1 : ℕ
  pub rs2 : ℕ
  pub order : ℕ

-- ---- the table: opcode, funct3, and funct7 or the five bits at the top

pub record AmRow : Type 0 where
  pub op : AmOp
  pub opcode : ℕ
  pub funct3 : ℕ
  pub top : ℕ

abbrev pub m_row : AmOp → ℕ → ℕ → AmRow
m_row o c f = record { op = o; opcode = c; funct3 = f; top = 1 }

abbrev pub a_row : AmOp → ℕ → ℕ → AmRow
a_row o f t = record { op = o; opcode = 0x2f; funct3 = f; top = t }

abbrev pub am_table : List AmRow
am_table =
    m_row Mul 0x33 0 ∷ m_row Mulh 0x33 1 ∷ m_row Mulhsu 0x33 2 ∷ m_row Mulhu 0x33 3 ∷ m_row Div 0x33 4 ∷ m_row Divu 0x33 5 ∷ m_row Rem 0x33 6 ∷ m_row Remu 0x33 7
    ∷ m_row Mulw 0x3b 0 ∷ m_row Divw 0x3b 4 ∷ m_row Divuw 0x3b 5 ∷ m_row Remw 0x3b 6 ∷ m_row Remuw 0x3b 7
    ∷ a_row AddW 2 0x00 ∷ a_row SwapW 2 0x01 ∷ a_row XorW 2 0x04 ∷ a_row OrW 2 0x08 ∷ a_row AndW 2 0x0c ∷ a_row MinW 2 0x10 ∷ a_row MaxW 2 0x14 ∷ a_row MinuW 2 0x18 ∷ a_row MaxuW 2 0x1c
    ∷ a_row AddD 3 0x00 ∷ a_row SwapD 3 0x01 ∷ a_row XorD 3 0x04 ∷ a_row OrD 3 0x08 ∷ a_row AndD 3 0x0c ∷ a_row MinD 3 0x10 ∷ a_row MaxD 3 0x14 ∷ a_row MinuD 3 0x18 ∷ a_row MaxuD 3 0x1c ∷ []

abbrev pub field : ℕ → ℕ → ℕ → ℕ
field low len w = w / 2 ^ low % 2 ^ len

abbrev pub is_amo_row : AmRow → Bool
is_amo_row row = row.opcode == 0x2f

abbrev pub top_of : AmRow → ℕ → ℕ
top_of row w = if is_amo_row row then field 27 5 w else field 25 7 w

abbrev pub am_fits : ℕ → AmRow → Bool
am_fits w row = w % 128 == row.opcode && field 12 3 w == row.funct3 && top_of row w == row.top

abbrev pub am_read : ℕ → AmRow → AmIns
am_read w row = record { op = row.op; rd = field 7 5 w; rs1 = field 15 5 w; rs2 = field 20 5 w; order = if is_amo_row row then field 25 2 w else 0 }

abbrev pub am_read_any : ℕ → Option AmRow → Option AmIns
am_read_any w None = None
am_read_any w (Some row) = Some (am_read w row)

unfoldable pub am_decoded : ℕ → Option AmIns
am_decoded w = am_read_any w (find (am_fits w) am_table)

-- ---- what they compute

abbrev pub is_atomic : AmOp → Bool
is_atomic Mul = false
is_atomic Mulh = false
is_atomic Mulhsu = false
is_atomic Mulhu = false
is_atomic Div = false
is_atomic Divu = false
is_atomic Rem = false
is_atomic Remu = false
is_atomic Mulw = false
is_atomic Divw = false
is_atomic Divuw = false
is_atomic Remw = false
is_atomic Remuw = false
is_atomic _ = true

-- the bytes of an atomic operation
abbrev pub am_size : AmOp → ℕ
am_size AddD = 8
am_size SwapD = 8
am_size XorD = 8
am_size OrD = 8
am_size AndD = 8
am_size MinD = 8
am_size MaxD = 8
am_size MinuD = 8
am_size MaxuD = 8
am_size _ = 4

-- the old value as a register has it
abbrev pub old_value : AmOp → ℕ → ℕ
old_value op v = if am_size op == 4 then sext_of 32 v else v

abbrev pub signed_word : ℕ → ℤ
signed_word a = cast_signed w64 a

abbrev pub word : ℤ → ℕ
word z = cast_unsigned w64 z

abbrev pub size_of : ℤ → ℕ
size_of (pos n) = n
size_of (negsuc n) = n + 1

abbrev pub is_negative : ℤ → Bool
is_negative (pos n) = false
is_negative (negsuc n) = true

abbrev pub with_sign : Bool → ℕ → ℤ
with_sign true n = neg_ℤ (pos n)
with_sign false n = pos n

abbrev pub differ : Bool → Bool → Bool
differ true b = not b
differ false b = b

-- the quotient towards zero, and the remainder with the sign of the dividend
abbrev pub quotient : ℤ → ℤ → ℤ
quotient a b = with_sign (differ (is_negative a) (is_negative b)) (size_of a / size_of b)

abbrev pub remainder : ℤ → ℤ → ℤ
remainder a b = with_sign (is_negative a) (size_of a % size_of b)

abbrev pub all_bits : ℕ
all_bits = 2 ^ 64 - 1

abbrev pub unless_zero : ℕ → ℕ → ℕ → ℕ
unless_zero b zero_case other = if b == 0 then zero_case else other

abbrev pub low : ℕ → ℕ
low a = a % 2 ^ 32

-- the signed number of the low 32 bits
abbrev pub low_signed : ℕ → ℤ
low_signed a = signed_word (sext_of 32 a)

abbrev pub lesser : (ℕ → ℕ → Bool) → ℕ → ℕ → ℕ
lesser before a b = if before b a then b else a

abbrev pub before_signed : ℕ → ℕ → Bool
before_signed a b = int_lt (signed_word a) (signed_word b)

abbrev pub before_low_signed : ℕ → ℕ → Bool
before_low_signed a b = int_lt (low_signed a) (low_signed b)

abbrev pub turned : (ℕ → ℕ → Bool) → ℕ → ℕ → Bool
turned before a b = before b a

-- The result of an operation that computes; what an atomic one stores, where a is the old value and b the register's.
abbrev pub am_result : AmOp → ℕ → ℕ → ℕ
am_result Mul a b = a * b % 2 ^ 64
am_result Mulh a b = word (int_shr (signed_word a *ℤ signed_word b) 64)
am_result Mulhsu a b = word (int_shr (signed_word a *ℤ pos b) 64)
am_result Mulhu a b = a * b / 2 ^ 64
am_result Div a b = unless_zero b all_bits (word (quotient (signed_word a) (signed_word b)))
am_result Divu a b = unless_zero b all_bits (a / b)
am_result Rem a b = unless_zero b a (word (remainder (signed_word a) (signed_word b)))
am_result Remu a b = unless_zero b a (a % b)
am_result Mulw a b = sext_of 32 (a * b % 2 ^ 64)
am_result Divw a b = unless_zero (low b) all_bits (sext_of 32 (word (quotient (low_signed a) (low_signed b))))
am_result Divuw a b = unless_zero (low b) all_bits (sext_of 32 (low a / low b))
am_result Remw a b = unless_zero (low b) (sext_of 32 a) (sext_of 32 (word (remainder (low_signed a) (low_signed b))))
am_result Remuw a b = unless_zero (low b) (sext_of 32 a) (sext_of 32 (low a % low b))
am_result AddW a b = low (a + b)
am_result SwapW a b = low b
am_result XorW a b = bit_xor (low a) (low b)
am_result OrW a b = bit_or (low a) (low b)
am_result AndW a b = bit_and (low a) (low b)
am_result MinW a b = lesser before_low_signed (low a) (low b)
am_result MaxW a b = lesser (turned before_low_signed) (low a) (low b)
am_result MinuW a b = lesser nat_lt (low a) (low b)
am_result MaxuW a b = lesser (turned nat_lt) (low a) (low b)
am_result AddD a b = (a + b) % 2 ^ 64
am_result SwapD a b = b
am_result XorD a b = bit_xor a b
am_result OrD a b = bit_or a b
am_result AndD a b = bit_and a b
am_result MinD a b = lesser before_signed a b
am_result MaxD a b = lesser (turned before_signed) a b
am_result MinuD a b = lesser nat_lt a b
am_result MaxuD a b = lesser (turned nat_lt) a b
