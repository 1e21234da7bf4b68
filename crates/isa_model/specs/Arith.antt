-- What the instructions compute. Numbers of 64 bits are below 2 ^ 64; `cast_signed w64` is the signed number of such bits.
-- Source: RISC-V Unprivileged ISA, RV64I and M.
use Rattle.std.specs.Prelude.{ℕ, ◌+◌, ◌-◌, ◌*◌, ◌/◌, ◌%◌, ◌^◌, ◌==◌, Bool, true, false, not, nat_lt, int_lt, bit_and, bit_or, bit_xor}
use Rattle.std.specs.Int.{w64, cast_signed, cast_unsigned, int_shr}
use Rattle.mck_word.specs.Word.{sext_of}
use Rattle.isa_model.specs.declared.names.Op.{Op}
use Rattle.isa_model.specs.declared.names.Op.TheVariants.{Add, Sub, Sll, Slt, Sltu, Xor, Srl, Sra, Or, And, Addi, Slli, Slti, Sltiu, Xori, Srli, Srai, Ori, Andi, Addw, Subw, Sllw, Srlw, Sraw, Addiw, Slliw, Srliw, Sraiw, Beq, Bne, Blt, Bge, Bltu, Bgeu, Lb, Lh, Lw, Lbu, Lhu, Lwu, Sb, Sh, Sw}

abbrev pub one_if : Bool → ℕ
one_if true = 1
one_if false = 0

abbrev pub add_of : ℕ → ℕ → ℕ
add_of a b = (a + b) % 2 ^ 64

abbrev pub sub_of : ℕ → ℕ → ℕ
sub_of a b = (a + (2 ^ 64 - b)) % 2 ^ 64

abbrev pub sll_of : ℕ → ℕ → ℕ
sll_of a k = a * 2 ^ k % 2 ^ 64

abbrev pub sra_of : ℕ → ℕ → ℕ
sra_of a k = cast_unsigned w64 (int_shr (cast_signed w64 a) k)

abbrev pub slt_of : ℕ → ℕ → Bool
slt_of a b = int_lt (cast_signed w64 a) (cast_signed w64 b)

abbrev pub computed : Op → ℕ → ℕ → ℕ
computed Add a b = add_of a b
computed Addi a b = add_of a b
computed Sub a b = sub_of a b
computed Sll a b = sll_of a (b % 64)
computed Slli a b = sll_of a (b % 64)
computed Slt a b = one_if (slt_of a b)
computed Slti a b = one_if (slt_of a b)
computed Sltu a b = one_if (nat_lt a b)
computed Sltiu a b = one_if (nat_lt a b)
computed Xor a b = bit_xor a b
computed Xori a b = bit_xor a b
computed Srl a b = a / 2 ^ (b % 64)
computed Srli a b = a / 2 ^ (b % 64)
computed Sra a b = sra_of a (b % 64)
computed Srai a b = sra_of a (b % 64)
computed Or a b = bit_or a b
computed Ori a b = bit_or a b
computed And a b = bit_and a b
computed Andi a b = bit_and a b
computed Addw a b = sext_of 32 (add_of a b)
computed Addiw a b = sext_of 32 (add_of a b)
computed Subw a b = sext_of 32 (sub_of a b)
computed Sllw a b = sext_of 32 (sll_of a (b % 32))
computed Slliw a b = sext_of 32 (sll_of a (b % 32))
computed Srlw a b = sext_of 32 (a % 2 ^ 32 / 2 ^ (b % 32))
computed Srliw a b = sext_of 32 (a % 2 ^ 32 / 2 ^ (b % 32))
computed Sraw a b = sra_of (sext_of 32 a) (b % 32)
computed Sraiw a b = sra_of (sext_of 32 a) (b % 32)
computed _ a b = 0

abbrev pub is_taken : Op → ℕ → ℕ → Bool
is_taken Beq a b = a == b
is_taken Bne a b = not (a == b)
is_taken Blt a b = slt_of a b
is_taken Bge a b = not (slt_of a b)
is_taken Bltu a b = nat_lt a b
is_taken Bgeu a b = not (nat_lt a b)
is_taken _ a b = false

abbrev pub load_size : Op → ℕ
load_size Lb = 1
load_size Lbu = 1
load_size Lh = 2
load_size Lhu = 2
load_size Lw = 4
load_size Lwu = 4
load_size _ = 8

abbrev pub load_value : Op → ℕ → ℕ
load_value Lb v = sext_of 8 v
load_value Lh v = sext_of 16 v
load_value Lw v = sext_of 32 v
load_value _ v = v

abbrev pub store_size : Op → ℕ
store_size Sb = 1
store_size Sh = 2
store_size Sw = 4
store_size _ = 8
