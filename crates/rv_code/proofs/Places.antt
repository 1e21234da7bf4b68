-- Where the table has the row of a name.
use Rattle.std.proofs.Common.{◌≡◌, ℕ, ◌<◌, length, get_or, true, refl, lit<}
use Rattle.isa_model.specs.Table.{row_of, table}
use Rattle.isa_model.specs.declared.names.Op.{Op}
use Rattle.isa_model.specs.declared.names.Op.TheVariants.{Lui, Auipc, Jal, Jalr, Beq, Bne, Blt, Bge, Bltu, Bgeu, Lb, Lh, Lw, Ld, Lbu, Lhu, Lwu, Sb, Sh, Sw, Sd, Addi, Slti, Sltiu, Xori, Ori, Andi, Slli, Srli, Srai, Addiw, Slliw, Srliw, Sraiw, Add, Sub, Sll, Slt, Sltu, Xor, Srl, Sra, Or, And, Addw, Subw, Sllw, Srlw, Sraw, Fence, Ecall, Ebreak}
use Rattle.rv_code.proofs.Finding.{all_apart}
use Rattle.rv_code.proofs.Shapes.{good}

abbrev pub place : Op → ℕ
place Lui = 0
place Auipc = 1
place Jal = 2
place Jalr = 3
place Beq = 4
place Bne = 5
place Blt = 6
place Bge = 7
place Bltu = 8
place Bgeu = 9
place Lb = 10
place Lh = 11
place Lw = 12
place Ld = 13
place Lbu = 14
place Lhu = 15
place Lwu = 16
place Sb = 17
place Sh = 18
place Sw = 19
place Sd = 20
place Addi = 21
place Slti = 22
place Sltiu = 23
place Xori = 24
place Ori = 25
place Andi = 26
place Slli = 27
place Srli = 28
place Srai = 29
place Addiw = 30
place Slliw = 31
place Srliw = 32
place Sraiw = 33
place Add = 34
place Sub = 35
place Sll = 36
place Slt = 37
place Sltu = 38
place Xor = 39
place Srl = 40
place Sra = 41
place Or = 42
place And = 43
place Addw = 44
place Subw = 45
place Sllw = 46
place Srlw = 47
place Sraw = 48
place Fence = 49
place Ecall = 50
place Ebreak = 51

pub at-place : (o : Op) → get_or table (place o) (row_of Lui) ≡ row_of o
at-place Lui = refl
at-place o = refl

pub place-in : (o : Op) → place o < length table
place-in Lui = lit< tt
place-in o = lit< tt

pub op-row : (o : Op) → (row_of o).op ≡ o
op-row Lui = refl
op-row o = refl

pub good-row : (o : Op) → good (row_of o) ≡ true
good-row Lui = refl
good-row o = refl

-- no word fits two rows of the table
pub table-apart : all_apart table ≡ true
table-apart = refl
