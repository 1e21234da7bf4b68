-- What a word says: the row of the table that it fits, and its fields. Fields are quotients and remainders of the word.
-- Source: RISC-V Unprivileged ISA, instruction formats.
use Rattle.std.specs.Prelude.{ℕ, ◌+◌, ◌-◌, ◌*◌, ◌/◌, ◌%◌, ◌^◌, ◌<◌, Bool, true, false, ◌&&◌, ◌==◌, nat_lt, List, [], ◌∷◌, Option, option_map, ℤ, pos, negsuc, if◌then◌else◌}
use Rattle.std.specs.List.{find, list_all}
use Rattle.isa_model.specs.Table.{row_of, table}
use Rattle.isa_model.specs.declared.names.Op.{Op}
use Rattle.isa_model.specs.declared.forms.Form.{Form}
use Rattle.isa_model.specs.declared.forms.Form.TheVariants.{R, I, S, B, U, J}
use Rattle.isa_model.specs.declared.shapes.Row.{Row}
use Rattle.isa_model.specs.declared.shapes.Shape.{Shape}
use Rattle.isa_model.specs.declared.shapes.Shape.TheVariants as shape

abbrev pub op_of : Form → Op
op_of (R op rd rs1 rs2) = op
op_of (I op rd rs1 imm) = op
op_of (S op rs1 rs2 imm) = op
op_of (B op rs1 rs2 imm) = op
op_of (U op rd imm) = op
op_of (J op rd imm) = op

-- ---- fields of a word

abbrev pub opcode_of : ℕ → ℕ
opcode_of w = w % 128

abbrev pub rd_of : ℕ → ℕ
rd_of w = w / 2 ^ 7 % 32

abbrev pub funct3_of : ℕ → ℕ
funct3_of w = w / 2 ^ 12 % 8

abbrev pub rs1_of : ℕ → ℕ
rs1_of w = w / 2 ^ 15 % 32

abbrev pub rs2_of : ℕ → ℕ
rs2_of w = w / 2 ^ 20 % 32

-- the number whose two's complement at k bits is n
abbrev pub signed_of : ℕ → ℕ → ℤ
signed_of k n = if nat_lt n (2 ^ (k - 1)) then pos n else negsuc (2 ^ k - 1 - n)

-- the bits of the immediates of S, B and J, as numbers
abbrev pub imm_s : ℕ → ℕ
imm_s w = w / 2 ^ 25 % 128 * 32 + w / 2 ^ 7 % 32

abbrev pub imm_b : ℕ → ℕ
imm_b w = w / 2 ^ 31 % 2 * 2 ^ 12 + w / 2 ^ 7 % 2 * 2 ^ 11 + w / 2 ^ 25 % 64 * 2 ^ 5 + w / 2 ^ 8 % 16 * 2

abbrev pub imm_j : ℕ → ℕ
imm_j w = w / 2 ^ 31 % 2 * 2 ^ 20 + w / 2 ^ 12 % 256 * 2 ^ 12 + w / 2 ^ 20 % 2 * 2 ^ 11 + w / 2 ^ 21 % 1024 * 2

-- what a word says in a shape
abbrev pub read : Shape → Op → ℕ → Form
read shape.R op w = R op (rd_of w) (rs1_of w) (rs2_of w)
read shape.I op w = I op (rd_of w) (rs1_of w) (signed_of 12 (w / 2 ^ 20 % 4096))
read shape.Shift6 op w = I op (rd_of w) (rs1_of w) (pos (w / 2 ^ 20 % 64))
read shape.Shift5 op w = I op (rd_of w) (rs1_of w) (pos (w / 2 ^ 20 % 32))
read shape.S op w = S op (rs1_of w) (rs2_of w) (signed_of 12 (imm_s w))
read shape.B op w = B op (rs1_of w) (rs2_of w) (signed_of 13 (imm_b w))
read shape.U op w = U op (rd_of w) (w / 2 ^ 12 % 2 ^ 20)
read shape.J op w = J op (rd_of w) (signed_of 21 (imm_j w))
read shape.Whole op w = I op (rd_of w) (rs1_of w) (signed_of 12 (w / 2 ^ 20 % 4096))

-- some bits that are fixed: the lowest, how many, and their value
pub record Fixed : Type 0 where
  pub lo : ℕ
  pub len : ℕ
  pub value : ℕ

abbrev pub at : ℕ → ℕ → ℕ → Fixed
at l n v = record { lo = l; len = n; value = v }

-- the fixed bits of a row in a shape
abbrev pub fixed_in : Shape → Row → List Fixed
fixed_in shape.R row = at 0 7 row.opcode ∷ at 12 3 row.funct3 ∷ at 25 7 row.top ∷ []
fixed_in shape.I row = at 0 7 row.opcode ∷ at 12 3 row.funct3 ∷ []
fixed_in shape.Shift6 row = at 0 7 row.opcode ∷ at 12 3 row.funct3 ∷ at 26 6 row.top ∷ []
fixed_in shape.Shift5 row = at 0 7 row.opcode ∷ at 12 3 row.funct3 ∷ at 25 7 row.top ∷ []
fixed_in shape.S row = at 0 7 row.opcode ∷ at 12 3 row.funct3 ∷ []
fixed_in shape.B row = at 0 7 row.opcode ∷ at 12 3 row.funct3 ∷ []
fixed_in shape.U row = at 0 7 row.opcode ∷ []
fixed_in shape.J row = at 0 7 row.opcode ∷ []
fixed_in shape.Whole row = at 0 7 row.opcode ∷ at 7 13 0 ∷ at 20 12 row.top ∷ []

abbrev pub has : ℕ → Fixed → Bool
has w f = w / 2 ^ f.lo % 2 ^ f.len == f.value

-- the word has the fixed bits of the row
abbrev pub fits : Row → ℕ → Bool
fits row w = list_all (has w) (fixed_in row.shape row)

-- The instruction that the word is, or none.
unfoldable pub decoded : ℕ → Option Form
decoded w = option_map (λ row. read row.shape row.op w) (find (λ row. fits row w) table)

-- ---- words of an instruction

-- the two's complement of z at k bits
abbrev pub low_of : ℕ → ℤ → ℕ
low_of k (pos n) = n
low_of k (negsuc n) = 2 ^ k - 1 - n

-- z has a two's complement at k bits
abbrev pub has_bits : ℕ → ℤ → Bool
has_bits k (pos n) = nat_lt n (2 ^ (k - 1))
has_bits k (negsuc n) = nat_lt n (2 ^ (k - 1))

abbrev pub is_register : ℕ → Bool
is_register n = nat_lt n 32

-- an immediate that an instruction with I's fields may have
abbrev pub is_amount : ℕ → ℤ → Bool
is_amount n (pos m) = nat_lt m n
is_amount n (negsuc m) = false

abbrev pub is_even : ℤ → Bool
is_even (pos n) = n % 2 == 0
is_even (negsuc n) = n % 2 == 1

abbrev pub is_zero : ℤ → Bool
is_zero (pos n) = n == 0
is_zero (negsuc n) = false

abbrev pub is_number : ℕ → ℤ → Bool
is_number k (pos n) = n == k
is_number k (negsuc n) = false

abbrev pub is_r : Shape → Bool
is_r shape.R = true
is_r shape.I = false
is_r shape.Shift6 = false
is_r shape.Shift5 = false
is_r shape.S = false
is_r shape.B = false
is_r shape.U = false
is_r shape.J = false
is_r shape.Whole = false

-- what stands in I's fields, by the shape; an ecall and an ebreak have all their bits fixed
abbrev pub fills_i : Row → Shape → ℕ → ℕ → ℤ → Bool
fills_i row shape.R rd rs1 imm = false
fills_i row shape.I rd rs1 imm = is_register rd && (is_register rs1 && has_bits 12 imm)
fills_i row shape.Shift6 rd rs1 imm = is_register rd && (is_register rs1 && is_amount 64 imm)
fills_i row shape.Shift5 rd rs1 imm = is_register rd && (is_register rs1 && is_amount 32 imm)
fills_i row shape.S rd rs1 imm = false
fills_i row shape.B rd rs1 imm = false
fills_i row shape.U rd rs1 imm = false
fills_i row shape.J rd rs1 imm = false
fills_i row shape.Whole rd rs1 imm = (rd == 0) && ((rs1 == 0) && is_number row.top imm)

abbrev pub is_s : Shape → Bool
is_s shape.R = false
is_s shape.I = false
is_s shape.Shift6 = false
is_s shape.Shift5 = false
is_s shape.S = true
is_s shape.B = false
is_s shape.U = false
is_s shape.J = false
is_s shape.Whole = false

abbrev pub is_b : Shape → Bool
is_b shape.R = false
is_b shape.I = false
is_b shape.Shift6 = false
is_b shape.Shift5 = false
is_b shape.S = false
is_b shape.B = true
is_b shape.U = false
is_b shape.J = false
is_b shape.Whole = false

abbrev pub is_u : Shape → Bool
is_u shape.R = false
is_u shape.I = false
is_u shape.Shift6 = false
is_u shape.Shift5 = false
is_u shape.S = false
is_u shape.B = false
is_u shape.U = true
is_u shape.J = false
is_u shape.Whole = false

abbrev pub is_j : Shape → Bool
is_j shape.R = false
is_j shape.I = false
is_j shape.Shift6 = false
is_j shape.Shift5 = false
is_j shape.S = false
is_j shape.B = false
is_j shape.U = false
is_j shape.J = true
is_j shape.Whole = false

-- the fields fit their places, in the format of the instruction's row
abbrev pub fills : Row → Form → Bool
fills row (R op rd rs1 rs2) = is_r row.shape && (is_register rd && (is_register rs1 && is_register rs2))
fills row (I op rd rs1 imm) = fills_i row row.shape rd rs1 imm
fills row (S op rs1 rs2 imm) = is_s row.shape && (is_register rs1 && (is_register rs2 && has_bits 12 imm))
fills row (B op rs1 rs2 imm) = is_b row.shape && (is_register rs1 && (is_register rs2 && (has_bits 13 imm && is_even imm)))
fills row (U op rd imm) = is_u row.shape && (is_register rd && nat_lt imm (2 ^ 20))
fills row (J op rd imm) = is_j row.shape && (is_register rd && (has_bits 21 imm && is_even imm))

-- The form is an instruction, which says that some word decodes to it.
unfoldable pub is_code : Form → Bool
is_code form = fills (row_of (op_of form)) form

-- the registers that a form names
abbrev pub AreRegisters : Form → Type 0
AreRegisters (R op rd rs1 rs2) = (rd < 32) × (rs1 < 32) × (rs2 < 32)
AreRegisters (I op rd rs1 imm) = (rd < 32) × (rs1 < 32)
AreRegisters (S op rs1 rs2 imm) = (rs1 < 32) × (rs2 < 32)
AreRegisters (B op rs1 rs2 imm) = (rs1 < 32) × (rs2 < 32)
AreRegisters (U op rd imm) = rd < 32
AreRegisters (J op rd imm) = rd < 32

-- The word with these five parts, from the lowest on.
abbrev pub joined : ℕ → ℕ → ℕ → ℕ → ℕ → ℕ
joined opcode rd funct3 rs1 above = opcode + rd * 2 ^ 7 + funct3 * 2 ^ 12 + rs1 * 2 ^ 15 + above * 2 ^ 20

-- what stands above `rs1` where the fields are those of I
abbrev pub above_in : Shape → ℕ → ℕ → ℕ
above_in shape.Shift6 top n = n + top * 64
above_in shape.Shift5 top n = n + top * 32
above_in _ top n = n

-- The word that a form has in a row.
abbrev pub placed : Row → Form → ℕ
placed row (R op rd rs1 rs2) = joined row.opcode rd row.funct3 rs1 (rs2 + row.top * 32)
placed row (I op rd rs1 imm) = joined row.opcode rd row.funct3 rs1 (above_in row.shape row.top (low_of 12 imm))
placed row (S op rs1 rs2 imm) = let v = low_of 12 imm in joined row.opcode (v % 32) row.funct3 rs1 (rs2 + v / 32 * 32)
placed row (B op rs1 rs2 imm) =
    let v = low_of 13 imm in
    joined row.opcode (v / 2 ^ 11 % 2 + v / 2 % 16 * 2) row.funct3 rs1 (rs2 + v / 32 % 64 * 32 + v / 2 ^ 12 * 2 ^ 11)
placed row (U op rd imm) = row.opcode + rd * 2 ^ 7 + imm * 2 ^ 12
placed row (J op rd imm) =
    let v = low_of 21 imm in
    row.opcode + rd * 2 ^ 7 + v / 2 ^ 12 % 256 * 2 ^ 12 + v / 2 ^ 11 % 2 * 2 ^ 20 + v / 2 % 1024 * 2 ^ 21 + v / 2 ^ 20 * 2 ^ 31

abbrev pub word_of : Form → ℕ
word_of form = placed (row_of (op_of form)) form
